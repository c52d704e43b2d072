-- `panel::kqs_read` meets its contract: each number of a reading is one of 32 bits.
use Rattle.panel.proofs.Entries.{narrow}
use Rattle.panel.proofs.kqs_read.Goals as goal

pub overflow_cast-result : goal.overflow_cast-result
overflow_cast-result c = record { fits = (narrow _ _ _ _ _ _ c.in-Ok.ensures).version }

pub overflow_cast-result-in-Ok : goal.overflow_cast-result-in-Ok
overflow_cast-result-in-Ok c = record { fits = (narrow _ _ _ _ _ _ c.in-Ok.ensures).level }

pub overflow_cast-result-in-Ok-2 : goal.overflow_cast-result-in-Ok-2
overflow_cast-result-in-Ok-2 c = record { fits = (narrow _ _ _ _ _ _ c.in-Ok.ensures).mask }

pub overflow_cast-result-in-Ok-3 : goal.overflow_cast-result-in-Ok-3
overflow_cast-result-in-Ok-3 c = record { fits = (narrow _ _ _ _ _ _ c.in-Ok.ensures).payload }

pub overflow_cast-result-in-Ok-4 : goal.overflow_cast-result-in-Ok-4
overflow_cast-result-in-Ok-4 c = record { fits = (narrow _ _ _ _ _ _ c.in-Ok.ensures).segments }

pub overflow_cast-result-in-Ok-5 : goal.overflow_cast-result-in-Ok-5
overflow_cast-result-in-Ok-5 c = record { fits = (narrow _ _ _ _ _ _ c.in-Ok.ensures).differing }

pub overflow_cast-result-in-Ok-6 : goal.overflow_cast-result-in-Ok-6
overflow_cast-result-in-Ok-6 c = record { fits = (narrow _ _ _ _ _ _ c.in-Ok.ensures).unreadable }
