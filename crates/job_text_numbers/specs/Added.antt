-- A text behind another one. Assumes nothing.
use Rattle.std.specs.Prelude.{◌≡◌, List, ◌++◌, ℕ}

-- behind the bytes `before` stands a text of which P holds, and with it they are `after`
pub record Added (P : List ℕ → Type 0) (before after : List ℕ) : Type 0 where
  pub text : List ℕ
  pub holds : P text
  pub is : after ≡ before ++ text
