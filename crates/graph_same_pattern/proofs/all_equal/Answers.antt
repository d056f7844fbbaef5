-- `all_equal` meets its contract: the fold's answer is that of all pairs.
use Rattle.std.proofs.Common.{arith, rules, length, ◌≡◌, ◌∙◌, ◌&&◌, true, sym, ap, refl, Bool}
use Rattle.std.specs.List.{zip, list_all}
use Rattle.std.proofs.lemmas.Fn.{fold_over, fronts}
use Rattle.std.proofs.lemmas.Iterator.{YieldsList-from_slice, YieldsList-from_zip, zips}
use Rattle.graph_same_pattern.proofs.Pairs.{both, pairs-next, pairs-all}
use Rattle.graph_same_pattern.proofs.all_equal.Goals as goal

pub returns : goal.returns
returns g c =
    let xs = c.args.xs.now in
    let ys = c.args.ys.now in
    let E = g.T.PartialEq.eq in
    let same : length xs ≡ length ys = omega arith in
    let folded : c.fold.result ≡ list_all (both E) (zip xs ys) =
    fold_over (zips fronts fronts) (λ pair. (pair.0.now, pair.1.now)) _ (λ pairs b. b ≡ list_all (both E) pairs) _
    (λ pairs a x b f' before called.
    let e : b ≡ (a && both E (x.0.now, x.1.now)) = search rules in
    (e ∙ ap (λ (t : Bool). t && both E (x.0.now, x.1.now)) before ∙ sym (pairs-next E pairs (x.0.now, x.1.now)), search rules))
    c.zip.result _ true c.fold.result
    (YieldsList-from_zip {s = c.zip.result}
    (YieldsList-from_slice xs (ap (λ s. s.rest.now) c.zip.ensures.first ∙ c.iter.ensures.rest))
    (YieldsList-from_slice ys (ap (λ s. s.rest.now) c.zip.ensures.second ∙ c.iter-2.ensures.rest))).runs
    refl c.fold.ensures.ran in
    folded ∙ pairs-all E xs ys same
