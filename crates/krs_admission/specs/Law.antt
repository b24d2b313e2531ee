-- A process comes into no session but one that was begun as its own real uid; and only while all four of its uids are
-- that one and its program isn't set-uid to another. One that it has joined itself it has while it asks as that uid.
use Rattle.std.specs.Prelude.{◌≡◌, ◌≢◌, ◌⊎◌, Bool, false, true, ℕ}
use Rattle.krs_admission.specs.Rule.{no_uid, number_of}
use Rattle.krs_admission.specs.declared.admitting.Place.{Place, TheVariants.{Above, Held, Joined, Lost}}
use Rattle.krs_admission.specs.declared.admitting.Place.TheVariants.{Tagged, UserSession}
use Rattle.krs_admission.specs.declared.facts.{Arrival.Arrival, Process.Process, Session.Session}

-- all four of its uids are this one, which is one user's; and its program isn't set-uid to another
pub record Is (p : Process) (uid : ℕ) : Type 0 where
  pub real : p.uids.real ≡ uid
  pub effective : p.uids.effective ≡ uid
  pub saved : p.uids.saved ≡ uid
  pub files : p.uids.files ≡ uid
  pub one : (uid ≢ no_uid) × ((uid ≢ p.unknown) ⊎ (p.mapped ≡ no_uid))
  pub program : (p.has_auxv ≡ true) × ((p.is_secure ≡ false) ⊎ (p.starter ≡ uid))

-- the law: the session was begun as its own real uid, and hasn't ended
abbrev pub MayHave : Process → Session → Type 0
MayHave p s = Is p s.begun.uids.real × (s.is_there ≡ true)

-- this user could trace it by ptrace(2), as far as is told: it is dumpable, and no set-uid program that this user has
-- executed
pub record IsOpen (p : Process) (uid : ℕ) : Type 0 where
  pub dumpable : p.owner ≡ p.uids.effective
  pub read : p.has_auxv ≡ true
  pub program : (p.is_secure ≡ false) ⊎ (p.starter ≢ uid)

-- a tag can be copied, so it is believed where the session's user could trace who began it then, and can now
abbrev pub IsShared : Session → Type 0
IsShared s =
    IsOpen s.begun s.begun.uids.real × ((s.has_beginner ≡ false) ⊎ IsOpen s.beginner s.begun.uids.real)

-- another process of its uid may come into a session that it begins: its user could trace it, or it gives that a name
-- and isn't set-uid
abbrev pub BeginsForOthers : Process → (has_name : Bool) → Type 0
BeginsForOthers p has_name =
    IsOpen p p.uids.real ⊎ ((has_name ≡ true) × (p.has_auxv ≡ true) × (p.is_secure ≡ false))

-- who has joined a session as this uid has it as its real one still; or, to revoke that session, as that of the file
-- system
abbrev pub IsStillIts : Process → (uid : ℕ) → (revokes : Bool) → Type 0
IsStillIts p uid revokes = (p.uids.real ≡ uid) ⊎ ((revokes ≡ true) × (p.uids.files ≡ uid))

-- it has itself joined the session that it holds, and executed nothing since; that hasn't ended, and it asks as its
-- user
pub record HasJoined (a : Arrival) : Type 0 where
  pub joined : a.has_joined ≡ true
  pub held : a.has_held ≡ true
  pub there : a.held.is_there ≡ true
  pub user : a.held.begun.uids.real ≡ a.uid
  pub still : IsStillIts a.process a.uid a.revokes

-- it has that which it has joined itself, or holds, or its tag says, or the nearest process above has; else its uid's
-- user-session keyring
abbrev pub IsLawful : Arrival → Place → Type 0
IsLawful a Lost = Unit {0}
IsLawful a UserSession = Is a.process a.process.uids.real × (a.has_limit ≡ true) × (a.knows_above ≡ true)
IsLawful a Held = (a.has_held ≡ true) × MayHave a.process a.held
IsLawful a Tagged = (a.tagged.tag ≡ a.soft) × MayHave a.process a.tagged × IsShared a.tagged
IsLawful a Joined = HasJoined a
IsLawful a Above = (a.has_above ≡ true) × MayHave a.process a.above × IsShared a.above

abbrev pub ComesLawfully : Arrival → (number : ℕ) → Type 0
ComesLawfully a number = (p : Place) → number ≡ number_of p → IsLawful a p
