-- Where byte 10 ends it, and where none does.
use Rattle.std.proofs.Common.{◌∙◌, sym}
use Rattle.burnin.specs.Lines.{line_ends, no_end}
use Rattle.burnin.proofs.constants.first_line.Goals as goal

pub returns-in-Some-clause-line : goal.returns-in-Some-clause-line
returns-in-Some-clause-line c = (line_ends c.args.text.now (sym c.end_of.ensures ∙ c.in-Some.is)).line

pub returns-in-Some-clause-behind : goal.returns-in-Some-clause-behind
returns-in-Some-clause-behind c = (line_ends c.args.text.now (sym c.end_of.ensures ∙ c.in-Some.is)).behind

pub returns-in-None-clause-line : goal.returns-in-None-clause-line
returns-in-None-clause-line c = (no_end c.args.text.now (sym c.end_of.ensures ∙ c.in-None.is)).0

pub returns-in-None-clause-behind : goal.returns-in-None-clause-behind
returns-in-None-clause-behind c = (no_end c.args.text.now (sym c.end_of.ensures ∙ c.in-None.is)).1
