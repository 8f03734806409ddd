-- The exchange of ends, of what a function returns.
use Rattle.directed.specs.declared.Interval.{Interval}
use Rattle.directed.specs.Lift.{pair_of}
use Rattle.directed_laws.specs.Exchange.{turned}
use Rattle.lists.specs.Lists.{Located, value, refusal}

-- the interval with its ends exchanged, or the same refusal
abbrev pub turned_result : Located Interval → Located Interval
turned_result (value a) = value (turned (pair_of a))
turned_result (refusal n k) = refusal n k
