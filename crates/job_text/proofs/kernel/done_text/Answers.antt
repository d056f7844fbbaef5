-- The word, the count, and behind the end of the line the values' lines. The count has at most two digits, so that there is room for them.
use Rattle.std.proofs.Common.{◌≡◌, ap, List, [], ◌∷◌, ◌++◌, ℕ, length, arith, append_assoc, length-append}
use Rattle.std.specs.Prelude.{Float}
use Rattle.job_text_numbers.specs.Added.{Added}
use Rattle.job_text_digits.specs.Numbers.{decimal}
use Rattle.job_text_digits.proofs.Digits.{two}
use Rattle.job_text.specs.Text.{newline, done_word, Lines, DoneText, done}
use Rattle.job_text.proofs.kernel.done_text.Goals as goal

done-with : (values : List Float) {w w' w'' w''' end : List ℕ}
    → w ≡ []
    → w' ≡ w ++ done_word
    → w'' ≡ w' ++ decimal (length values)
    → w''' ≡ w'' ++ (newline ∷ [])
    → Added (Lines values) w''' end
    → DoneText values end
done-with values none word count line lines =
    rw (lines.is, line, count, word, none, append_assoc, append_assoc) (done lines.holds)

pub put_lines-requires : goal.put_lines-requires
put_lines-requires c =
    let few = two (length c.args.values.now) c.requires in
    omega (
      arith,
      few,
      simp length-append at (ap length c.put_bytes.ensures),
      simp length-append at (ap length c.put_decimal.ensures.added),
      simp length-append at (ap length c.put_byte.ensures),
      ap length c.new-text.ensures,
    )

pub returns : goal.returns
returns c =
    done-with c.args.values.now c.new-text.ensures c.put_bytes.ensures c.put_decimal.ensures.added c.put_byte.ensures c.put_lines.ensures
