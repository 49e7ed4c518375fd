use Rattle.sheet.proofs.Outcomes.{reads_back, one_writing}
use Rattle.sheets.specs.Fields.{pins_lawful, modes_lawful, bounds_lawful, demands_lawful}
use Rattle.sheets.proofs.read.sheets_read_back.Goals as goal

pub returns : goal.returns
returns c = record {
  pins = (reads_back pins_lawful, one_writing pins_lawful);
  modes = λ units. (reads_back (modes_lawful units), one_writing (modes_lawful units));
  bounds = λ places. (reads_back (bounds_lawful places), one_writing (bounds_lawful places));
  demands = (reads_back demands_lawful, one_writing demands_lawful);
}
