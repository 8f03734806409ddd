-- Exchange of ends: the list with the ends of every constant exchanged and meet put for join and join for meet, and the answer that it has then.
use Rattle.std.specs.Prelude.{List, [], ◌∷◌, ℕ, zero, suc, eqb, if◌then◌else◌}
use Rattle.directed.specs.Thousandths.{Pair, dual}
use Rattle.lists.specs.Lists.{Located, value, refusal}

-- ---- the list that is meant: at a code, or at the bytes of a constant
pub data Place : Type 0 where
  at_code at_constant : Place

abbrev pub exchange_code : ℕ → ℕ
exchange_code code = if eqb code 7 then 8 else (if eqb code 8 then 7 else code)

unfoldable pub exchange_from : Place → List ℕ → List ℕ
exchange_from at_code [] = []
exchange_from at_code (zero ∷ rest) = zero ∷ exchange_from at_constant rest
exchange_from at_code (suc code ∷ rest) = exchange_code (suc code) ∷ exchange_from at_code rest
exchange_from at_constant (a ∷ b ∷ c ∷ d ∷ e ∷ f ∷ g ∷ h ∷ rest) = e ∷ f ∷ g ∷ h ∷ a ∷ b ∷ c ∷ d ∷ exchange_from at_code rest
exchange_from at_constant [] = []
exchange_from at_constant (a ∷ []) = a ∷ []
exchange_from at_constant (a ∷ b ∷ []) = a ∷ b ∷ []
exchange_from at_constant (a ∷ b ∷ c ∷ []) = a ∷ b ∷ c ∷ []
exchange_from at_constant (a ∷ b ∷ c ∷ d ∷ []) = a ∷ b ∷ c ∷ d ∷ []
exchange_from at_constant (a ∷ b ∷ c ∷ d ∷ e ∷ []) = a ∷ b ∷ c ∷ d ∷ e ∷ []
exchange_from at_constant (a ∷ b ∷ c ∷ d ∷ e ∷ f ∷ []) = a ∷ b ∷ c ∷ d ∷ e ∷ f ∷ []
exchange_from at_constant (a ∷ b ∷ c ∷ d ∷ e ∷ f ∷ g ∷ []) = a ∷ b ∷ c ∷ d ∷ e ∷ f ∷ g ∷ []

abbrev pub exchange : List ℕ → List ℕ
exchange s = exchange_from at_code s

-- ---- the answer that is meant
abbrev pub exchanged : Located Pair → Located Pair
exchanged (value a) = value (dual a)
exchanged (refusal n k) = refusal n k
