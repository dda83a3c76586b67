-- A text written at a place, and the place behind it; no other character changes. Assumes nothing.
use Rattle.std.specs.Prelude.{ℕ, ◌+◌, List, ◌≡◌, length}
use Rattle.std.proofs.lemmas.List.Edits.{sets}

pub record Put (old : List ℕ) (at : ℕ) (text new : List ℕ) (end : ℕ) : Type 0 where
  pub bytes : new ≡ sets old at text
  pub place : end ≡ at + length text
