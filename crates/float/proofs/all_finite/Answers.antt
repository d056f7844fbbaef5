-- `float::all_finite` meets its contract: the fold's answer is that of both halves, which are all of the values.
use Rattle.std.proofs.Common.{arith, rules, length, take, drop, ◌≡◌, ◌∙◌, ◌-◌, ◌+◌, ◌/◌, ℕ, true, ◌&&◌, sym, ap, List, Bool}
use Rattle.std.specs.List.{zip}
use Rattle.std.proofs.lemmas.Fn.{fold_over, fronts}
use Rattle.std.proofs.lemmas.Iterator.{YieldsList-from_slice, YieldsList-from_zip, zips}
use denote.Ref.{Bor}
use lib.Ieee.{Float}
use lib.Ieee.Scale.{finite}
use lib.ListN.{length-take, length-drop}
use lib.Seq.{take_all}
use Rattle.float.specs.All.{all}
use Rattle.float.proofs.All.{all_push, all-of-none, all-of-pairs, all-overlapping}
use Rattle.float.proofs.all_finite.Goals as goal

-- whether both values of a pair are finite
abbrev both : Float × Float → Bool
both pair = finite pair.0 && finite pair.1

pub returns : goal.returns
returns c =
    let values = c.args.values.now in
    let second = length values / 2 in
    let half = length values - second in
    let folded : c.fold.result ≡ all both (zip (take half values) (take half (drop second values))) =
    fold_over (zips fronts fronts) (λ (pair : Bor Float × Bor Float). (pair.0.now, pair.1.now)) _ (λ (ys : List (Float × Float)) (b : Bool). b ≡ all both ys) _
    (λ ys a x b f' before called.
    let e : b ≡ (a && both (x.0.now, x.1.now)) = search rules in
    (e ∙ ap (λ (t : Bool). t && both (x.0.now, x.1.now)) before ∙ sym (all_push both ys (x.0.now, x.1.now)), search rules))
    c.zip.result _ true c.fold.result
    (YieldsList-from_zip {s = c.zip.result}
    (YieldsList-from_slice (take half values) (ap (λ s. s.rest.now) c.zip.ensures.first ∙ c.iter.ensures.rest))
    (YieldsList-from_slice (take half (drop second values)) (ap (λ s. s.rest.now) c.zip.ensures.second ∙ c.iter-2.ensures.rest))).runs
    (all-of-none _) c.fold.ensures.ran in
    let size : length (take half values) ≡ length (take half (drop second values)) = rw (length-take, length-take, length-drop) (omega arith) in
    let whole : take half (drop second values) ≡ drop second values = take_all half (drop second values) (omega (arith, length-drop second values)) in
    let end : half ≡ second + (half - second) = omega arith in
    folded
    ∙ all-of-pairs finite (take half values) (take half (drop second values)) size
    ∙ ap (λ (ys : List Float). all finite (take half values) && all finite ys) whole
    ∙ ap (λ (j : ℕ). all finite (take j values) && all finite (drop second values)) end
    ∙ all-overlapping finite values second (half - second)
