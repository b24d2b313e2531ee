use Rattle.krs_model.proofs.Hiding.{Gone.{revoked_gone, stays_gone, tells_nobody}, Invalidated.invalidated_gone}
use Rattle.krs_model.proofs.secrets.payloads_of_gone_keys_are_told_to_nobody.Goals as goal

pub returns : goal.returns
returns c = record { told = tells_nobody; revoked = revoked_gone; invalidated = invalidated_gone; stays = stays_gone }
