-- Where no desk was opened.
use Rattle.std.proofs.Common.{inl, refl}
use Rattle.krs_serve.proofs.daemon.listen.Goals as goal

pub returns-in_default : goal.returns-in_default
returns-in_default g c = inl (c.say.ensures, refl, refl)
