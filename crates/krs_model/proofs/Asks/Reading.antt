-- What is proved of READ and DESCRIBE.
use Rattle.std.proofs.Common.{◌∙◌, ◌≡◌, ap, List, Ok, refl, Result, sym, ℕ, ℤ}
use Rattle.krs_types.specs.declared.ask.{Answer.{Answer, TheVariants.Bytes}, Op.TheVariants.{Describe, Read}}
use Rattle.krs_types.specs.declared.{context.Context.Context, errno.Errno.Errno, kind.Told.Told}
use Rattle.krs_types.specs.declared.kind.Told.TheVariants.{ItsLinks, ItsPayload, Never}
use Rattle.krs_types.specs.{declared.rights.Want.TheVariants.{Granted, ToRead}, Kind.row_of, Refusing.◌>>=◌}
use Rattle.krs_types.specs.Rights.{VIEW}
use Rattle.krs_model.specs.{Asks.Reading.{describe, read, readable, told_as}, Hiding.{blind, blind_answer}}
use Rattle.krs_model.specs.{Hiding.{blind_content, Hiding, over, told_at, told_by, told_of}, Lookup.context_of}
use Rattle.krs_model.specs.{Lookup.look_up, Notes.Telling.named, Search.found, State.{Content, Key, Links, Payload}}
use Rattle.krs_model.specs.State.{State}
use Rattle.krs_model.proofs.Asks.{Fares.fares, Lawful.IsLawful, Plain.{IsPlain, plain_err, plain_ok, plains}}
use Rattle.krs_model.proofs.Hiding.{Accepted.{accepted, blind_done, found_in, named_is}, Over.bound}
use Rattle.krs_model.proofs.Lookups.Laws.{look_up_usable}

plain_told : (mark : Told) (content : Content) → IsPlain (told_as mark content)
plain_told ItsPayload (Payload bytes) = plain_ok
plain_told ItsPayload (Links serials) = plain_err refl
plain_told Never content = plain_err refl
plain_told ItsLinks (Payload bytes) = plain_err refl
plain_told ItsLinks (Links serials) = plain_ok

-- what READ comes to, with the payloads of the store and the answer hidden
abbrev pub blind_read : Hiding → State → ℕ → ℕ → ℤ → State × Answer → State × Answer
blind_read hide s client context id done = (blind hide done.0, blind_answer hide s client context (Read id) done.1)

told_blind : (h : List ℕ → List ℕ) (mark : Told) (content : Content)
    → told_as mark (blind_content h content) ≡ over (told_by h mark) (told_as mark content)
told_blind h ItsPayload (Payload bytes) = refl
told_blind h ItsPayload (Links serials) = refl
told_blind h Never (Payload bytes) = refl
told_blind h Never (Links serials) = refl
told_blind h ItsLinks (Payload bytes) = refl
told_blind h ItsLinks (Links serials) = refl

told_is :
    (hide : Hiding) (s : State) (client context : ℕ) (id : ℤ) (c : Context) (found : ℕ × Key) (bytes : List ℕ)
    → context_of s client context ≡ Ok c → look_up s c id ToRead ≡ Ok found
    → told_at hide s.keys (named s client context id) bytes ≡ told_of (hide found.0) found.1.kind bytes
told_is hide s client context id c found bytes own there =
    rw (named_is s client context id ToRead c found own there, (look_up_usable s c id ToRead found there).there)

pub read_law : (s : State) (client context : ℕ) (id : ℤ) → IsLawful s client context (Read id)
unfolding read
read_law s client context id = record {
  small = λ mid answer few h. tt;
  plain = search (plains, plain_told) depth 12;
  blind = λ hide hides.
      let view = blind_read hide s client context id in
      found_in hide s client context id ToRead view _ _ (λ c found own there.
      let h = hide found.0 in
      ap (λ (r : Result (List ℕ) Errno). r >>= (λ bytes. accepted (blind hide s) (Bytes bytes)))
      (told_blind h (row_of found.1.kind).told found.1.content)
      ∙ bound (told_of h found.1.kind) view (readable found.1.kind found.1.content) _ _ (λ bytes _.
      ap (λ (told : List ℕ). accepted (blind hide s) (Bytes told))
      (sym (told_is hide s client context id c found bytes own there))));
  fares = search fares depth 12;
}

pub describe_law : (s : State) (client context : ℕ) (id : ℤ) → IsLawful s client context (Describe id)
unfolding describe
describe_law s client context id = record {
  small = λ mid answer few h. tt;
  plain = search plains depth 12;
  blind = λ hide hides. found_in hide s client context id (Granted VIEW) (blind_done hide) _ _ (λ c found _ _. refl);
  fares = search fares depth 12;
}

pub ruleset reading_laws = (read_law, describe_law)
