-- The struct says as much as the answer: two answers with equal structs are the same. So the contracts of the functions for C, which speak of
-- the struct, rule out what those of the calls rule out. The proof reads an answer's number and values back from its struct. Assumes nothing.
use mathlib.Core.Path.{◌≡◌, refl, sym, ap, ◌∙◌}
use mathlib.Core.List.{List, [], ◌∷◌}
use Prim.Native.Nat.{ℕ, zero, suc}
use lib.Ieee.{Float}
use Rattle.error.specs.declared.Refusal.{Refusal}
use Rattle.error.specs.Answer.{Checked}
use Rattle.error.specs.Answer.{Accepted, Refused}
use Rattle.error.specs.declared.Refusal.TheVariants.{RowStartCount, RowStartFalls, EntryCount, Column, Value}
use Rattle.error.specs.declared.Refusal.TheVariants.{Size, Tau, Radius, Bound, Length, Weight, NoNodes}
use Rattle.error.specs.declared.Refusal.TheVariants.{SegmentCount, PoolCount, Breakpoint, StepCount}
use Rattle.error.specs.declared.Refusal.TheVariants.{FirstBreakpoint, LookupTime, Law, SampledValue, Malformed}
use Rattle.error.specs.Refusals.{Carried, count, real, answer_of, Answers}
use Rattle.error.proofs.Refusals.{answer-determines}
use Rattle.error.proofs.Left.{answers, answers-accepted, fault-is, fault-accepted}
use Rattle.answer.specs.declared.Answer.{Answer}
use Rattle.answer.specs.Struct.{laid_out, refusal_struct, struct_of, Tells}

-- the first so many of two reals
reals : ℕ → Float → Float → List Carried
reals zero x y = []
reals (suc zero) x y = real x ∷ []
reals (suc (suc n)) x y = real x ∷ real y ∷ []

-- the values: the count where there is one, else the reals
values : ℕ → ℕ → List Carried → List Carried
values zero k rest = rest
values (suc n) k rest = count k ∷ []

-- the number and the values of a refusal; nothing where the number is 0
numbered : ℕ → List Carried → List Carried
numbered zero rest = []
numbered (suc n) rest = count (suc n) ∷ rest

answer_in : Answer → List Carried
answer_in s = numbered s.number (values s.counts s.count (reals s.reals s.first s.second))

answer-in : (a : Checked) (given : List Carried) → answer_in (struct_of a given) ≡ answer_of a
unfolding answer_in numbered values reals
answer-in Accepted given = refl
answer-in (Refused (RowStartCount k)) given = refl
answer-in (Refused (RowStartFalls k)) given = refl
answer-in (Refused (EntryCount k)) given = refl
answer-in (Refused (Column k)) given = refl
answer-in (Refused (Value x)) given = refl
answer-in (Refused (Size k)) given = refl
answer-in (Refused (Tau x)) given = refl
answer-in (Refused (Radius x y)) given = refl
answer-in (Refused (Bound x)) given = refl
answer-in (Refused (Length k)) given = refl
answer-in (Refused (Weight x)) given = refl
answer-in (Refused (NoNodes k)) given = refl
answer-in (Refused (SegmentCount k)) given = refl
answer-in (Refused (PoolCount k)) given = refl
answer-in (Refused (Breakpoint x)) given = refl
answer-in (Refused (StepCount k)) given = refl
answer-in (Refused (FirstBreakpoint x)) given = refl
answer-in (Refused (LookupTime x)) given = refl
answer-in (Refused (Law k)) given = refl
answer-in (Refused (SampledValue x)) given = refl
answer-in (Refused (Malformed k)) given = refl

pub struct-determines : (a b : Checked) (given-a given-b : List Carried) → struct_of a given-a ≡ struct_of b given-b → a ≡ b
struct-determines a b given-a given-b p =
    answer-determines a b (sym (answer-in a given-a) ∙ ap answer_in p ∙ answer-in b given-b)

-- ---- what is returned, from what a call promised of its answer

module _ {fault : Checked} {returned : Answer} where
  -- the struct of an answer is that of the fault whose number and values the answer has
  pub struct-of-fault : {answer : Checked} (given : List Carried)
      → Answers answer fault
      → returned ≡ struct_of answer given
      → returned ≡ struct_of fault given
  struct-of-fault given h e = e ∙ ap (λ (a : Checked). struct_of a given) (fault-is h)

  -- so a fault is told by its number and values
  pub told-fault : Tells returned (λ answer. Answers answer fault) → returned ≡ struct_of fault []
  told-fault t = struct-of-fault [] t.promised t.struct

  -- A call whose answer, of an enum A, holds a value where its check accepts: it gave x, which is the right y.
  pub given-told : {A X : Type 0} (check : A → Checked) (give : X → A) (carried : X → Carried) {answer : A} {x y : X}
      → check (give x) ≡ Accepted
      → (give x ≡ give y → x ≡ y)
      → Answers (check answer) fault
      → (fault ≡ Accepted → answer ≡ give y)
      → answer ≡ give x
      → returned ≡ laid_out 0 (carried x ∷ [])
      → returned ≡ struct_of fault (carried y ∷ [])
  given-told {X = X} check give carried accepts one h right p e =
      let accepted = ap check p ∙ accepts in
      let same = one (sym p ∙ right (fault-accepted h accepted)) in
      struct-of-fault _ (answers-accepted h accepted) (e ∙ ap (λ (z : X). laid_out 0 (carried z ∷ [])) same)

  -- The same call: it refused.
  pub refusal-told : {A : Type 0} (check : A → Checked) (refuse : Refusal → A) (given : List Carried) {answer : A} {r : Refusal}
      → check (refuse r) ≡ Refused r
      → Answers (check answer) fault
      → answer ≡ refuse r
      → returned ≡ refusal_struct r
      → returned ≡ struct_of fault given
  refusal-told check refuse given refuses h p e = struct-of-fault given (answers (sym (ap check p ∙ refuses) ∙ fault-is h)) e
