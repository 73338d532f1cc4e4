-- Each turn of the loop is a turn of a course, and leaves the next one ready; one that failed is reported.
use Rattle.painterend.proofs.Apart.{reading_failed}
use Rattle.painterend.proofs.Courses.{reached_start, ready_again, reached_ran}
use Rattle.painterend.proofs.Printing.{printing_start, printing_turn, printing_fails, printing_ends}
use Rattle.painterend.proofs.all_parts.Goals as goal
use Rattle.painterend.proofs.all_parts.Goals.{in-Ok, in-Err}

pub loop-init : goal.loop-init
loop-init g c = (
  (reached_start c.start.result c.reading-s.result c.new-desk.result.buffer c.start.ensures c.reading-s.ensures).0,
  printing_start c.start.result c.reading-s.result _ _ _ c.start.ensures c.reading-s.ensures,
)

pub returns-in_default : goal.returns-in_default
returns-in_default g c = record { ran = reached_ran _ _ c.loop.invariant.1.reached; prints = printing_ends _ _ _ _ _ _ c.loop.invariant.1 }

pub loop-preserved : goal.loop-preserved
loop-preserved g c =
    let p = c.loop.invariant.1 in
    let on = c.in-Reading.is in
    elim c.match-turn.branch [
      | in-Ok w ↦ let t = w.in-Ok.ensures in let z = w.written-s.ensures in rw (w.s-is, w.paper-is) (
        ready_again c.loop.s c.loop.desk.buffer _ _ c.turn.new.self.sheet _ t.turn z.state,
        printing_turn c.loop.s c.loop.desk.buffer _ _ _ _ _ _ _ _ _ _ p on (c.loop.invariant.0 on) t.turn t.reads z.state z.bytes,
      )
      | in-Err w ↦ let f = w.reported-s.ensures in rw (w.s-is, w.paper-is) (
        λ h. absurd (reading_failed h f.over),
        printing_fails c.loop.s c.loop.desk.buffer _ _ _ _ _ _ _ p w.in-Err.ensures.reads f,
      )
    ]

pub returns-clause-ran : goal.returns-clause-ran
returns-clause-ran g c = reached_ran _ _ c.loop.invariant.1.reached

pub returns-clause-prints : goal.returns-clause-prints
returns-clause-prints g c = printing_ends _ _ _ _ _ _ c.loop.invariant.1
