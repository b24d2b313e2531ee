-- Which state a store stands for, and what is true of each.
use Rattle.krs_model.specs.{State.State, Sweep.roots}
use Rattle.krs_keys.specs.Keys.{AreFit, AreOfKind, shown}
use Rattle.krs_hold.specs.Tally.{AreExact}
use Rattle.krs_tables.specs.declared.tables.Tables.TheInside.{Inside}

abbrev pub state_of : Inside → State
state_of s = record {
  keys = shown s.keys.keys;
  contexts = s.contexts.contexts;
  processes = s.contexts.processes;
  uids = s.contexts.uids;
  queues = s.queues.queues;
  watches = s.queues.watches;
  next_serial = s.keys.next;
  next_context = s.contexts.next_context;
  next_queue = s.queues.next_queue;
  clock = s.clock;
}

-- Each link has the name of its key, only keyrings have links, and the numbers of holders are exact.
pub record IsConsistent (s : Inside) : Type 0 where
  pub fit : AreFit s.keys.keys
  pub kinds : AreOfKind s.keys.keys
  pub tallied : AreExact s.keys.keys s.holders (roots (state_of s))
