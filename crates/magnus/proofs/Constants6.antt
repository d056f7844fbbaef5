-- The constants of order 6 (specs/Omega6.antt) are what magnus6_graph.rs and magnus6_graph_helpers.rs have: a decimal
-- literal, quotients of whole numbers, and -20, each rounded once to binary64. They are computed. Assumes nothing.
use mathlib.Core.Path.{◌≡◌, refl}
use mathlib.Core.Bool.{false}
use Prim.Native.Nat.{ℕ, ◌^◌}
use lib.IntN.{pos}
use lib.Ieee.{Float, binary64, of_bits, of_int, round, neg, div}
use Rattle.magnus.specs.Omega6.{constants6}

abbrev whole : ℕ → Float
whole m = of_int binary64 (pos m)

abbrev quotient : ℕ → ℕ → Float
quotient a b = div binary64 (whole a) (whole b)

constants6-values : constants6 ≡ record {
  sqrt15_over3 = round binary64 false 12_909_944_487_358_056 (10 ^ 16);
  ten_over3 = quotient 10 3;
  one_over12 = quotient 1 12;
  one_over60 = quotient 1 60;
  one_over240 = quotient 1 240;
  minus_twenty = neg (whole 20);
}
unfolding of_bits of_int round neg div
constants6-values = refl
