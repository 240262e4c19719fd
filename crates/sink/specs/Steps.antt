-- What the steps of packing a tree leave, of a sink that is sound.
--   Grown ..     more may be in the top object, and nothing that the earlier counts count is changed
--   Rooted ..    the open objects are as before, and so is what was packed
use Rattle.std.specs.Prelude.{◌≡◌, ℕ, List}
use Rattle.serialize.specs.declared.tables.Counts.{Counts}
use Rattle.serialize.specs.declared.tables.Serializer.{Serializer}
use Rattle.serialize.specs.Tables.{Sound, Kept}
use Rattle.serialize.specs.Calls.{Before, SameOpen}

pub record Grown (w w' : List ℕ) (s s' : Serializer) (c c' : Counts) : Type 0 where
  pub sound : Sound w' s' c'
  pub before : Before c c'
  pub depth : c'.depth ≡ c.depth
  pub kept : Kept c w s w' s'

pub record Rooted (w w' : List ℕ) (s s' : Serializer) (c c' : Counts) : Type 0 where
  pub sound : Sound w' s' c'
  pub same : SameOpen c c'
  pub kept : Kept c w s w' s'
