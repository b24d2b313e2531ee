-- What a key grants to a context: keyrings(7), "Access rights".
use Rattle.std.specs.Prelude.{Bool, ℕ}
use Rattle.krs_types.specs.{Rights.allows, declared.{context.Context.Context, rights.Want.Want}}
use Rattle.krs_model.specs.{Access.rights_on, Possession.possessed, State.{Key, State}}

-- the rights of the context on a key, with the possessor's where it possesses it, are what is wanted
abbrev pub allows_held : Want → Key → Context → Bool → Bool
allows_held want key c possessed = allows want (rights_on key c.caller possessed) possessed

-- the same of the key at a serial
abbrev pub grants_to : State → Context → ℕ → Key → Want → Bool
grants_to s c serial key want = allows_held want key c (possessed s c serial)
