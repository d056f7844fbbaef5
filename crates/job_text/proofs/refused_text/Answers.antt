-- The word, the number and the values, and the end of the line.
use Rattle.std.proofs.Common.{◌≡◌, ◌∷◌, [], ◌++◌, List, ℕ, append_assoc}
use Rattle.error.specs.Refusals.{Carried, count, number_of, values_of}
use Rattle.error.specs.declared.Refusal.{Refusal}
use Rattle.refusal_rows.specs.declared.Row.{Row}
use Rattle.refusal_rows.specs.Row.{row_number, row_values}
use Rattle.job_text_numbers.specs.Added.{Added}
use Rattle.job_text_row.specs.Spaced.{Spaced}
use Rattle.job_text.specs.Text.{newline, refused_word, RefusedText, refused}
use Rattle.job_text.proofs.refused_text.Goals as goal

refused-with : (r : Refusal) (row : Row) {w w' w'' w''' : List ℕ}
    → row_number row ≡ number_of r
    → row_values row ≡ values_of r
    → w ≡ []
    → w' ≡ w ++ refused_word
    → Added (Spaced (count (row_number row) ∷ row_values row)) w' w''
    → w''' ≡ w'' ++ (newline ∷ [])
    → RefusedText r w'''
refused-with r row number values none word p end =
    let u : Spaced (count (number_of r) ∷ values_of r) p.text = rw (← number, ← values) p.holds in
    rw (end, p.is, word, none, append_assoc) (refused u)

pub returns : goal.returns
returns c =
    refused-with c.args.refusal c.row_of.result c.row_of.ensures.result_value c.row_of.ensures.result_value_2 c.new-text.ensures
    c.put_bytes.ensures c.put_row.ensures.added c.put_byte.ensures
