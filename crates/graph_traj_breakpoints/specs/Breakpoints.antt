-- The breakpoints of a trajectory (01, part 10), and what the checks of the lookup accept. Segment i goes from breakpoint i to breakpoint
-- i + 1. proofs/LookupSound.antt shows that the checks accept exactly these. Assumes nothing.
use Rattle.std.specs.Prelude.{◌≡◌, true, List, ℕ, ◌+◌, ◌≤◌, ◌<◌, length, get_or, Float}
use Rattle.std.specs.Float.{nan}
use Rattle.std.specs.Float.Ieee.{lt, le}
use Rattle.std.specs.Float.Ieee.Scale.{finite}

-- breakpoint i
abbrev pub breakpoint : List Float → ℕ → Float
breakpoint breakpoints i = get_or breakpoints i nan

-- what rows 13 to 15 accept: the breakpoints of so many segments, all finite, and each above its predecessor
pub record Breakpoints (segments : ℕ) (breakpoints : List Float) : Type 0 where
  pub some-segments : 0 < segments
  pub few-segments : segments ≤ 65535
  pub count : length breakpoints ≡ segments + 1
  pub finite-at : (i : ℕ) → i ≤ segments → finite (breakpoint breakpoints i) ≡ true
  pub rising : (i : ℕ) → i < segments → lt (breakpoint breakpoints i) (breakpoint breakpoints (i + 1)) ≡ true

-- what row 18 accepts: breakpoint 0 ≤ t ≤ the last breakpoint, so that t is no NaN
pub record Inside (segments : ℕ) (breakpoints : List Float) (t : Float) : Type 0 where
  pub from_first : le (breakpoint breakpoints 0) t ≡ true
  pub to_last : le t (breakpoint breakpoints segments) ≡ true
