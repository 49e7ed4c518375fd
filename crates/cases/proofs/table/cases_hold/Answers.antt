use Rattle.cases.proofs.Sheets.{made}
use Rattle.cases.proofs.Orders.{order, table, still_order, still_table, no_first, no_last, short}
use Rattle.cases.proofs.Scripts.{opened, first_step, second_step, idle}
use Rattle.cases.proofs.Settlings.{highest, one_too_high}
use Rattle.cases.proofs.table.cases_hold.Goals as goal

pub returns : goal.returns
returns c = record {
  joined = c.worked_cases.ensures.joined;
  gap = c.worked_cases.ensures.gap;
  ramp = c.cases_stand.ensures.ramp;
  steady = c.cases_stand.ensures.steady;
  board = made;
  order = order;
  table = table;
  still_order = still_order;
  still_table = still_table;
  restless_first = no_first;
  restless_last = no_last;
  short_table = short;
  opened = opened;
  first_step = first_step;
  second_step = second_step;
  idle_wait = idle;
  highest_that_fits = highest;
  one_too_high = one_too_high;
}
