-- Where the fields of a job start. Assumes nothing.
use Rattle.std.proofs.Common.{◌≡◌, refl, true, false, List, [], ◌∷◌, ℕ, zero, suc, ◌+◌, ◌≤◌, ◌<◌, length, take, get_or, add-one, add-zero, arith, length-take-le, get_or-take}
use Rattle.job_checks.specs.Bits.{bit_of}
use Rattle.job_checks.specs.declared.Field.{Field}
use Rattle.job_checks.specs.declared.Field.TheVariants.{Pattern, Values1, Values2, Values3, Tau, Bound, Weights, Signal, Adjoint}
use Rattle.job_format.specs.JobFormat.{field_sizes, field_start, job_nodes, job_entries, job_has, job_field}

-- the fields in the order of the bits
abbrev pub in_order : List Field
in_order = Pattern ∷ Values1 ∷ Values2 ∷ Values3 ∷ Tau ∷ Bound ∷ Weights ∷ Signal ∷ Adjoint ∷ []

bit_at : (k : ℕ) → k < 9 → bit_of (get_or in_order k Pattern) ≡ k
bit_at zero h = refl
bit_at (suc zero) h = refl
bit_at (suc (suc zero)) h = refl
bit_at (suc (suc (suc zero))) h = refl
bit_at (suc (suc (suc (suc zero)))) h = refl
bit_at (suc (suc (suc (suc (suc zero))))) h = refl
bit_at (suc (suc (suc (suc (suc (suc zero)))))) h = refl
bit_at (suc (suc (suc (suc (suc (suc (suc zero))))))) h = refl
bit_at (suc (suc (suc (suc (suc (suc (suc (suc zero)))))))) h = refl
bit_at (suc (suc (suc (suc (suc (suc (suc (suc (suc k))))))))) h = absurd (omega arith)

-- the field at a place of the first so many has that bit
pub bit-of-turn : (count k : ℕ) → count ≤ 9 → k < length (take count in_order) → bit_of (get_or (take count in_order) k Pattern) ≡ k
bit-of-turn count k l h =
    let lt : k < count = rw (length-take-le count in_order l) at h in
    rw (get_or-take count in_order k Pattern lt) (bit_at k (omega arith))

module _ (bytes : List ℕ) where
  pub first-start : 2 ≡ job_field bytes 0
  unfolding job_field field_start
  first-start = refl

  -- the field after one that the job has, and after one that it lacks
  pub after-standing : (bit at size : ℕ)
      → at ≡ job_field bytes bit
      → job_has bytes bit ≡ true
      → size ≡ get_or (field_sizes (job_nodes bytes) (job_entries bytes)) bit 0
      → at + size ≡ job_field bytes (bit + 1)
  unfolding job_field field_start job_has
  after-standing bit at size p q r = rw (add-one, q, p, r)

  pub after-lacking : (bit at : ℕ) → at ≡ job_field bytes bit → job_has bytes bit ≡ false → at ≡ job_field bytes (bit + 1)
  unfolding job_field field_start job_has
  after-lacking bit at p q = rw (add-one, q, p, add-zero)
