use Rattle.std.proofs.Common.{rules}
use Rattle.krs_desk.proofs.Calls.{called_same}
use Rattle.krs_desk.proofs.desk.Desk.call_into.Goals as goal

pub returns-in-Err : goal.returns-in-Err
returns-in-Err g c =
    let k = called_same c.in-Err.ensures.none.1 c.in-Err.ensures.none.0 c.call_anew.ensures.called in record {
      table = k.added.table;
      idle = k.idle;
      added = k.added;
      taken = search rules;
      looked = k.looked;
      keeps = k.keeps;
    }
