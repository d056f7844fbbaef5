-- The first part of an array, in which a field or a vector of the step lies. Assumes nothing.
use mathlib.Core.Path.{◌≡◌, sym, ap, ◌∙◌}
use mathlib.Core.List.{List}
use Prim.Native.Nat.{ℕ, ◌*◌, ◌≤◌, ◌<◌}
use native.Mathlib.Omega.{arith}
use lib.ListN.{length, take, replicate, length-replicate, get_or-replicate}
use lib.Seq.{length-take-le, get_or-take, ext_get_or}
use lib.Ieee.{Float, nan, binary64}
use Rattle.arithmetic.specs.Arithmetic.{ieee}
use Rattle.arithmetic.proofs.Tabulate.{length-tabulate, get_d_tabulate}
use Rattle.scratch.specs.Parts.{zeros}

-- an array of zeros
pub repeated-zeros : (n : ℕ) → replicate n (ieee binary64).zero ≡ zeros n
repeated-zeros n =
    ext_get_or nan _ _ (length-replicate n _ ∙ sym (length-tabulate _ n))
    (λ i h. let k : i < n = rw (length-replicate n (ieee binary64).zero) at h in
    get_or-replicate n i _ nan k ∙ sym (get_d_tabulate _ n i nan k))

-- its first part has zeros
pub front-zeros : {room : List Float} {size k : ℕ} → room ≡ zeros size → k ≤ size → take k room ≡ zeros k
front-zeros {room} {size} {k} e h =
    let long : k ≤ length (zeros size) = rw (length-tabulate (λ i. (ieee binary64).zero) size) h in
    rw e
    (ext_get_or nan _ _ (length-take-le k (zeros size) long ∙ sym (length-tabulate _ k))
    (λ i l. let below : i < k = rw (length-take-le k (zeros size) long) at l in
    get_or-take k (zeros size) i nan below ∙ get_d_tabulate _ size i nan (omega arith) ∙ sym (get_d_tabulate _ k i nan below)))

-- the output of a step: a place for each node
pub output-zeros : (size : ℕ) {n nodes : ℕ} → n ≡ nodes → n ≤ size → take n (replicate size (ieee binary64).zero) ≡ zeros nodes
output-zeros size p h = front-zeros (repeated-zeros size) h ∙ ap zeros p

-- the work slice of a step: so many places for each node
pub work-zeros : {room : List Float} {size : ℕ} (times : ℕ) {n nodes : ℕ}
    → room ≡ zeros size
    → times * n ≤ size
    → n ≡ nodes
    → take (times * n) room ≡ zeros (times * nodes)
work-zeros times e h p = front-zeros e h ∙ ap (λ (k : ℕ). zeros (times * k)) p
