-- If code makes classes with the size, the bounds and the list of classes of a pool, they are the classes of the pool.
use Rattle.std.proofs.Common.{◌≡◌, ℕ, Bool, List, map, length, sym, ap, ◌∙◌, subst}
use Rattle.define_pools.specs.Pool.{Pool, IsPool}
use Rattle.define_searches.specs.declared.Bounds.{Bounds}
use Rattle.define_searches.specs.Classes.{Class, Classes, KeepsLimits, MakesClasses, PartVolunteers, bounds_of, class_by, classes_by, leaders}
use Rattle.define_searches.proofs.Limits.{limits_kept}
use Rattle.define_searches.proofs.Parting.{classes_part}

module _ (pool : Pool) (alike : ℕ → ℕ → Bool) (size : ℕ) (bounds : List (List Bounds)) (classes : List Class) (size_is : size ≡ pool.size) (bounds_are : bounds ≡ bounds_of pool.categories)
    (classes_are : classes ≡ map (class_by alike pool) (leaders alike (length pool.volunteers))) where
  abbrev made : Classes
  made = record { size = size; bounds = bounds; classes = classes }

  pub made_classes : made ≡ classes_by alike pool
  made_classes =
      ap (λ size. let all : Classes = record { size = size; bounds = bounds; classes = classes } in all) size_is
      ∙ ap (λ bounds. let all : Classes = record { size = pool.size; bounds = bounds; classes = classes } in all) bounds_are
      ∙ ap (λ classes. let all : Classes = record { size = pool.size; bounds = bounds_of pool.categories; classes = classes } in all) classes_are

  pub keeps_limits : IsPool pool → MakesClasses pool alike → KeepsLimits made
  keeps_limits is_pool makes = subst KeepsLimits (sym made_classes) (limits_kept pool alike is_pool makes)

  pub made_parts : MakesClasses pool alike → PartVolunteers made
  made_parts makes = subst PartVolunteers (sym made_classes) (classes_part pool alike makes)
