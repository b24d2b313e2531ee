-- What a look-up for a right finds: keyctl(2), "ERRORS"; profile, order of a look-up.
use Rattle.std.specs.Prelude.{◌≡◌, false, Some, true, ℕ}
use Rattle.krs_types.specs.{Rights.allows, declared.{context.Context.Context, rights.Want.Want}}
use Rattle.krs_model.specs.{Access.{is_over, rights_on}, Possession.possessed, State.{Key, State}, Table.at}

-- the key is at the serial, was not revoked, has not expired, and grants the context what it wants
pub record IsUsable (s : State) (c : Context) (want : Want) (found : ℕ × Key) : Type 0 where
  pub there : at s.keys found.0 ≡ Some found.1
  pub live : found.1.revoked ≡ false
  pub running : is_over s.clock found.1.expiry ≡ false
  pub granted : allows want (rights_on found.1 c.caller (possessed s c found.0)) (possessed s c found.0) ≡ true
