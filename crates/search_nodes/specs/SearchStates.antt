-- How the fields of a search's state show the state of the machine.
use Rattle.std.specs.Arc.{arc_value}
use Rattle.search_machine.specs.State.{State}
use Rattle.search_nodes.specs.declared.search_state.SearchState.{SearchState}

-- the state of the machine that these fields show
abbrev pub machine_state : SearchState → State
machine_state a = record {
  problem = arc_value a.problem;
  cuts = (arc_value a.table).cuts;
  unit = a.unit;
  nodes = a.nodes.items;
  columns = a.columns;
  incumbent = a.incumbent;
  examined = a.examined;
  budget = a.budget;
  next_version = a.next_version;
  accepted = a.accepted;
}
