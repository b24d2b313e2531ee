use Rattle.std.proofs.Common.{◌∙◌, ap, rules}
use Rattle.krs_model.specs.Table.{at}
use Rattle.krs_model.proofs.Tables.Changes.{at_without_none}
use Rattle.krs_keys.specs.Places.{by_place}
use Rattle.krs_keys.proofs.KindsLemmas.{kinds_without}
use Rattle.krs_keys.proofs.key_table.KeyTable.remove.Goals as goal

pub invariant_of-self : goal.invariant_of-self
invariant_of-self c =
    let es = by_place c.self.inside.keys in (
      c.take_out.ensures.placed,
      record {
        below = λ q h.
            ap (λ zs. at zs q) c.take_out.ensures.keys ∙ at_without_none es _ q (c.self.invariant.1.below q h);
        kinds = kinds_without es _ _ c.take_out.ensures.keys c.take_out.ensures.gone c.self.invariant.1.kinds;
        sessions = c.take_out.ensures.sessions;
      },
    )

pub returns-clause-key : goal.returns-clause-key
returns-clause-key c = search rules

pub returns-clause-keys : goal.returns-clause-keys
returns-clause-keys c = search rules

pub returns-clause-gone : goal.returns-clause-gone
returns-clause-gone c = search rules
