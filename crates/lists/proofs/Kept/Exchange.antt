-- Laws that no proof cites any more, and that stand: the exchange of codes, known or not.
use Rattle.std.specs.Prelude.{◌≡◌, refl, true, List, map, ℕ, suc, length, drop, Option, Some, None, option_map, set}
use Rattle.std.proofs.Common.{◌∙◌}
use Rattle.directed.specs.declared.Binary.TheVariants.{Join, Meet}
use Rattle.lists.specs.declared.Step.{Step}
use Rattle.lists.specs.declared.Step.TheVariants.{Two}
use Rattle.lists.specs.Steps.{codes, code_of, follows}
use Rattle.lists.specs.Lists.{after, at, admitted, Expression, stepped, read}
use Rattle.lists.specs.Exchange.{exchange_code}
use Rattle.lists.proofs.Exchange as laws
use Rattle.lists.proofs.Exchange.{exchange_step, exchange_tree, exchange_reading, is_plain}

abbrev pub exchange_known : Option Step → Option Step
exchange_known (Some s) = Some (exchange_step s)
exchange_known None = None

known_is : (c : Option Step) → option_map exchange_step c ≡ exchange_known c
known_is (Some s) = refl
known_is None = refl

pub rows_exchange : map exchange_known (map Some codes) ≡ set (set (map Some codes) 7 (Some (Two Meet))) 8 (Some (Two Join))
rows_exchange = refl

pub code_exchange : (c : ℕ) → code_of (exchange_code c) ≡ exchange_known (code_of c)
code_exchange c = laws.code_exchange c ∙ known_is (code_of c)

-- a step other than a constant, where what follows it is exchanged
pub plain_exchange : (v l k : ℕ) (r q : List ℕ) (ts : List Expression) (c : Option Step) → ((s : Step) → c ≡ Some s → is_plain s ≡ true)
    → ((s : Step) → read v l (suc k) (map exchange_tree (stepped k s r ts)) q ≡ exchange_reading (read v l (suc k) (stepped k s r ts) r))
    → after (at k (admitted v (length ts) (exchange_known c) q)) (λ s. read v l (suc k) (stepped k s q (map exchange_tree ts)) (drop (follows s) q))
    ≡ exchange_reading (after (at k (admitted v (length ts) c r)) λ s. read v l (suc k) (stepped k s r ts) (drop (follows s) r))
plain_exchange v l k r q ts c plain ih = rw (← known_is c) (laws.plain_exchange v l k r q ts c plain ih)
