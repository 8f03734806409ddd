-- What a text is in whose front an end stands as 01 writes it, and what is read there. That it is so: proofs/WrittenEnd.antt.
use Rattle.std.specs.Prelude.{◌≡◌, ℕ, ◌<◌, true, List, ◌++◌, drop, ℤ, unsigned_abs}
use Rattle.text.specs.Text.{end_text}
use Rattle.text.specs.EndLaws.{seven_places}
use Rattle.text.specs.Form.{end_form, end_value, end_length, written_form}

-- which texts have such an end in front

pub record IsWritten (t : List ℕ) : Type 0 where
  pub in_form : end_form t ≡ true
  pub text_is : t ≡ end_text (end_value t) ++ drop (end_length t) t
  pub small : unsigned_abs (end_value t) < seven_places

pub record WrittenFacts (t : List ℕ) (z : ℤ) (l : ℕ) : Type 0 where
  pub in_form : written_form t ≡ true
  pub value_is : end_value t ≡ z
  pub length_is : end_length t ≡ l
