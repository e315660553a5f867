use Rattle.std.proofs.Common.{◌∙◌, ap, sym}
use Rattle.std.proofs.Math.Bool.{and-true}
use Rattle.std.proofs.lemmas.Str.{is_utf8-from_IsUtf8}
use Rattle.define_pools.specs.Pool.{keeps_name_limits}
use Rattle.office_tables.proofs.names.is_name.Goals as goal

pub returns : goal.returns
returns c =
    let name = c.args.name.now in
    c.keeps_name_limits.ensures ∙ (ap keeps_name_limits c.as_bytes.ensures.value ∙ (rw (is_utf8-from_IsUtf8 name c.utf8.name) (sym (and-true (keeps_name_limits name)))))
