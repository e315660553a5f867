-- Replies with the status 200, and their heads. Used by the module `replies`.
use Rattle.std.specs.Prelude.{ℕ, ◌++◌, List, [], codes}
use Rattle.std.specs.Fmt.{decimal}
use Rattle.define_desk.specs.Replies.{Reply, status_line}

abbrev pub told_as : List ℕ → List ℕ → Reply
told_as media body = record { status = 200; media = media; more = []; body = body }

-- the head of a reply with a body of `size` bytes: the status line, the headers and the empty line
abbrev pub told_head : List ℕ → ℕ → List ℕ
told_head media size =
    status_line 200 ++ codes "Content-Type: " ++ media ++ codes "\r\nContent-Length: " ++ decimal size ++ codes "\r\nConnection: close\r\n\r\n"
