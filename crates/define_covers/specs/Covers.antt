-- Covers: for each stage of a certificate a list of fronts, each with a cause for which it isn't live. Builds on BundleText of
-- `define_bundles`. `define_covers` spells them.
use Rattle.std.specs.Prelude.{ℕ, List}
use Rattle.define_bundles.specs.BundleText.{Bundle}

-- why a front isn't live, so that a search doesn't enter it
pub data Cause : Type 0 where
  -- the front takes too many members, or can't reach the size
  BySize : Cause
  -- the front can't keep the bounds of the value with this number, counted from 1 over all categories
  ByValue : (number : ℕ) → Cause
  -- the front takes two members of a household
  ByHousehold : Cause
  -- the front can't attain the cap of the earlier stage with this number, counted from 1
  ByClosed : (number : ℕ) → Cause
  -- the front can't exceed the stage's cap
  ByCap : Cause

-- a line of a tree: a front, which is a list of counts for the first classes, and a cause
pub record FrontLine : Type 0 where
  pub front : List ℕ
  pub cause : Cause

-- a bundle, and for each stage of its certificate a tree, which is a list of fronts
pub record Cover : Type 0 where
  pub bundle : Bundle
  pub trees : List (List FrontLine)
