-- Document 02: a refusal as a program prints it.
use Rattle.std.specs.Prelude.{ℕ, List, [], ◌∷◌, ◌++◌}
use Rattle.decimal.specs.Digits.{decimal}

-- Q-4: "`R`, the number and the block's place .., parted by single spaces", and byte 10; the burn-in has the line of its input for the place
unfoldable pub refusal_line : ℕ → ℕ → List ℕ
refusal_line n place = 82 ∷ 32 ∷ (decimal n ++ (32 ∷ (decimal place ++ (10 ∷ []))))
