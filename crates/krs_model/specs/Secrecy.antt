-- What a client can tell of payloads that it doesn't read, and who may read one. After J. A. Goguen and J. Meseguer,
-- "Security Policies and Security Models", 1982: noninterference, with READ as the one declassifier; keyctl(2),
-- KEYCTL_READ.
use Rattle.std.specs.Prelude.{[], ◌&&◌, ◌++◌, ◌<◌, ◌==◌, ◌∷◌, ◌≡◌, ◌≢◌, ◌⊎◌, Bool, Err, false, filter, if◌then◌else◌}
use Rattle.std.specs.Prelude.{is_ok, IsOk, length, List, map, nat_le, Ok, Result, Some, true, ℕ}
use Rattle.krs_types.specs.{Kind.row_of, Rights.{has_all, READ, SEARCH}}
use Rattle.krs_types.specs.declared.ask.{Answer.Answer, Ask.Ask, Op.{Op, TheVariants.Read}}
use Rattle.krs_types.specs.declared.{context.Context.Context, errno.Errno.{Errno, TheVariants.ENOMEM}}
use Rattle.krs_types.specs.declared.{event.Event.Event, kind.Told.TheVariants.{ItsPayload, Never}, rights.Rights.Rights}
use Rattle.krs_model.specs.{Access.{is_over, rights_on}, Hiding.{blind, Hides, Hiding, IsBlinded}, History.IsLegal}
use Rattle.krs_model.specs.{Possession.possessed, Revocation.Reads, State.{Key, raised, State}, Step.Step, Table.at}

-- memory ran out: profile, out of memory
abbrev pub is_wanting : Result Answer Errno → Bool
is_wanting (Ok answer) = false
is_wanting (Err ENOMEM) = true
is_wanting (Err e) = false

-- who asked what, and when, and whether memory ran out for it
abbrev pub asked : Event → ((ℕ × ℕ) × Ask) × Bool
asked event = (((event.lane, event.moment), event.ask), is_wanting event.reply)

-- legal histories of two stores that are the same but for hidden payloads: those of what they began with, and of what
-- they were asked, one by one. Memory ran out for the same asks
pub record AreAskedAlike (hide : Hiding) (start other : State) (events others : List Event) : Type 0 where
  pub starts : blind hide start ≡ blind hide other
  pub end : State
  pub other_end : State
  pub blinded : List Event
  pub other_blinded : List Event
  pub first : IsBlinded hide start events end blinded
  pub second : IsBlinded hide other others other_end other_blinded
  pub asks : map asked blinded ≡ map asked other_blinded

-- an ask whose answer may tell a payload
abbrev pub is_read : Op → Bool
is_read (Read id) = true
is_read op = false

-- an accepted READ, of whatever key
abbrev pub IsRead : Event → Type 0
IsRead event = (is_read event.ask.op ≡ true) × IsOk event.reply

-- event by event the clients are the same, and the replies are the same, but those to accepted READs
abbrev pub DifferInReads : List Event → List Event → Type 0
DifferInReads [] [] = Unit {0}
DifferInReads (event ∷ events) (other ∷ others) =
    (event.lane ≡ other.lane) × ((event.reply ≡ other.reply) ⊎ (IsRead event × IsRead other))
    × DifferInReads events others
DifferInReads [] (other ∷ others) = ⊥
DifferInReads (event ∷ events) [] = ⊥

-- the payloads of the key at this serial are not hidden
abbrev pub IsShown : Hiding → ℕ → Type 0
IsShown hide serial = (bytes : List ℕ) → hide serial bytes ≡ bytes

-- of the events from this state, each READ by the client that is accepted is of a keyring, or of a key whose payload
-- READ tells (a user key), and whose payloads are not hidden
abbrev pub ReadsShown : Hiding → ℕ → State → List Event → Type 0
ReadsShown hide client start events =
    (before later : List Event) (reading : Event) (old : State) (serial : ℕ) (key : Key)
    → events ≡ before ++ reading ∷ later → IsLegal start before old → reading.lane ≡ client
    → Reads old reading serial → at old.keys serial ≡ Some key → (row_of key.kind).told ≡ ItsPayload
    → IsShown hide serial

-- all that a client is told: the replies to it, in order, among them the records that it reads from its queues
abbrev pub replies_to : ℕ → List Event → List (Result Answer Errno)
replies_to client events = map (λ e. e.reply) (filter (λ e. e.lane == client) events)

-- Whatever payloads are hidden, a client that reads none of them is told in these events what it is told in any others
-- that differ in them alone: what a client hasn't read, it can't tell from another secret
abbrev pub TellsNoUnread : State → List Event → Type 0
TellsNoUnread start events =
    (hide : Hiding) (client : ℕ) (other : State) (others : List Event) → Hides hide
    → AreAskedAlike hide start other events others → ReadsShown hide client start events
    → replies_to client events ≡ replies_to client others

-- the event is an accepted READ
abbrev pub tells : Event → Bool
tells event = is_read event.ask.op && is_ok event.reply

-- what a client is told by READ: the replies to its accepted READs, in order
abbrev pub reads_to : ℕ → List Event → List (Result Answer Errno)
reads_to client events = map (λ e. e.reply) (filter (λ e. (e.lane == client) && tells e) events)

-- A client learns what its READs answer, and nothing else. Whatever payloads are hidden, of keys that it reads too:
-- where its READs are answered the same in other events that differ in these alone, it is told the same by all its asks
abbrev pub TellsByReadsAlone : State → List Event → Type 0
TellsByReadsAlone start events =
    (hide : Hiding) (client : ℕ) (other : State) (others : List Event) → Hides hide
    → AreAskedAlike hide start other events others → reads_to client events ≡ reads_to client others
    → replies_to client events ≡ replies_to client others

-- other payloads in the place of hidden ones: hidden, they are what those were
pub record Changes (hide change : Hiding) : Type 0 where
  pub lawful : Hides change
  pub hidden : (n : ℕ) (bytes : List ℕ) → hide n (change n bytes) ≡ hide n bytes

-- one such: this payload in the place of those of a set of keys, where a key may have them
abbrev pub putting : (ℕ → Bool) → List ℕ → Hiding
putting secret payload n bytes =
    if secret n && (nat_le 1 (length bytes) && nat_le (length bytes) 32767) then payload else bytes

-- Each legal history has others that are asked alike: whatever other payloads take the place of hidden ones, in the
-- store that it began with and in what it was asked
abbrev pub HasOthers : Type 0
HasOthers =
    (hide change : Hiding) (start end : State) (events : List Event) → Changes hide change → IsLegal start events end
    → (others : List Event) × IsBlinded change start events end others
    × AreAskedAlike hide start (blind change start) events others

-- the key that had this serial is gone: it is revoked, or no key has the serial any more, as once it was invalidated or
-- dropped
pub record IsGone (s : State) (serial : ℕ) : Type 0 where
  pub given : serial < s.next_serial
  pub gone : (key : Key) → at s.keys serial ≡ Some key → key.revoked ≡ true

-- the payloads of no other key are hidden
abbrev pub HidesOnly : ℕ → Hiding → Type 0
HidesOnly serial hide = (n : ℕ) → n ≢ serial → IsShown hide n

-- no client is told in these events of the payload that the key at this serial had
abbrev pub TellsNobody : ℕ → State → List Event → Type 0
TellsNobody serial start events =
    (hide : Hiding) (client : ℕ) (other : State) (others : List Event) → Hides hide → HidesOnly serial hide
    → AreAskedAlike hide start other events others → replies_to client events ≡ replies_to client others

-- so it is in all events from this state on
abbrev pub KeepsSecrets : State → Type 0
KeepsSecrets start = (events : List Event) → TellsNoUnread start events

-- the key at the serial grants the context these rights
abbrev pub Grants : State → Context → ℕ → Key → Rights → Type 0
Grants s c serial key wanted = has_all (rights_on key c.caller (possessed s c serial)) wanted ≡ true

-- the key at the serial is neither revoked nor expired, is of a type that READ tells of (no logon key), and grants the
-- context READ; or it is possessed, and grants SEARCH: keyrings(7), "Access rights"; profile, reading by possession
pub record MayBeRead (s : State) (c : Context) (serial : ℕ) : Type 0 where
  pub key : Key
  pub there : at s.keys serial ≡ Some key
  pub live : key.revoked ≡ false
  pub running : is_over s.clock key.expiry ≡ false
  pub told : (row_of key.kind).told ≢ Never
  pub granted : Grants s c serial key READ ⊎ ((possessed s c serial ≡ true) × Grants s c serial key SEARCH)

-- each key that an accepted READ names may be read by the context that asks, at that moment
abbrev pub ReadsByRight : State → Type 0
ReadsByRight start =
    (before : List Event) (old : State) → IsLegal start before old
    → (reading : Event) (end : State) (serial : ℕ) → Step old reading end → (reads : Reads old reading serial)
    → MayBeRead (raised old reading.moment) reads.names.whose serial
