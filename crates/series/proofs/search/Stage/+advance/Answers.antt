-- The later steps move on, or the first that can.
use Rattle.std.proofs.Common.{ap, arith}
use Rattle.series.specs.Nearest.{can, next_there, advanced}
use Rattle.series.proofs.search.Stage.+advance.Goals as goal

pub behind-requires : goal.behind-requires
behind-requires t c = let s = c.args.self in
    let e = c.in-Some.ensures.cases in
    let f = rw e.0 at c.requires.1 in
    (omega (arith, (can s.constants.count s.waiting c.args.end.now c.requires.1).few, c.requires.0), f.1)

pub raise-requires : goal.raise-requires
raise-requires t c = let s = c.args.self in
    let e = c.in-Some.ensures.cases in
    (omega (arith, (can s.constants.count s.waiting c.args.end.now c.requires.1).few, c.requires.0), omega (arith, c.advance.auto.end, e.1, c.requires.0))

pub returns-then-advance : goal.returns-then-advance
returns-then-advance t c = let s = c.args.self in
    let e = c.in-Some.ensures.cases.0 in
    let f = rw e at c.requires.1 in
    rw (c.if-advance.true, e) (next_there s.constants.count s.waiting c.in-Some.first.now c.in-Some.rest.now c.advance.new.end f.0 f.1 (rw (ap (λ k. k.count) c.behind.ensures.constants, c.behind.ensures.waiting) at c.if-advance.ensures))

pub returns-else-advance : goal.returns-else-advance
returns-else-advance t c = let s = c.args.self in
    let e = c.in-Some.ensures.cases.0 in
    rw e (advanced s.constants.count s.waiting c.in-Some.first.now _ c.in-Some.rest.now c.raise.new.end c.raise.result (omega (arith, c.advance.auto.end))
    (rw (ap (λ k. k.count) c.behind.ensures.constants, c.behind.ensures.waiting) at c.if-advance.ensures) c.raise.ensures)
