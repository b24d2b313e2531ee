-- What is proved of LINK, UNLINK, CLEAR and RESTRICT_KEYRING.
use Rattle.std.proofs.Common.{[], ◌≡◌, ◌∷◌, arith, Bool, IsSome, List, Ok, refl, subst, true, ℕ, ℤ}
use Rattle.std.proofs.lemmas.Bool.Decides.{nat_tests}
use Rattle.krs_types.specs.declared.ask.Answer.{Answer, TheVariants.Nothing}
use Rattle.krs_types.specs.declared.ask.Op.TheVariants.{Clear, Link, RestrictKeyring, Unlink}
use Rattle.krs_types.specs.{declared.{context.Context.Context, rights.Want.TheVariants.Granted}, Rights.{LINK, WRITE}}
use Rattle.krs_model.specs.Asks.Linked.{clear, cleared, cleared_content, link, linked, linked_into, name_of, no_type}
use Rattle.krs_model.specs.Asks.Linked.{restrict_keyring, unlink}
use Rattle.krs_model.specs.{Confidentiality.HasToItself, Hiding.blind_content, Linking.linking, Lookup.context_of}
use Rattle.krs_model.specs.{Lookup.{look_up, serial_of}, Making.made_for, Notes.Telling.named}
use Rattle.krs_model.specs.{Possession.links_of_content, Search.found, Sound.is_links, State.{Content, Key, Links}}
use Rattle.krs_model.specs.{State.{Payload, State}, Table.at}
use Rattle.krs_model.proofs.Asks.{Fares.{fares, fares_within, linked_fares}, Later.{bind_ok, same_ok, same_state}}
use Rattle.krs_model.proofs.Asks.{Later.within_ok, LaterByAsk.linked_into_is, Lawful.IsLawful, NewSerials.small_there}
use Rattle.krs_model.proofs.Asks.{NotedKeys.{about_link_small, about_small}, Outcomes.{meets_after, meets_ok}}
use Rattle.krs_model.proofs.Asks.Plain.{IsPlain, plain_err, plain_ok, plains}
use Rattle.krs_model.proofs.Hiding.{Accepted.blind_done, Links.{made_blind, without_blind}}
use Rattle.krs_model.proofs.{Hiding.Seen.{is_seen, steps}, Isolation.{Keys.not_found, Links.{IsOther, made_alone}}}
use Rattle.krs_model.proofs.{Isolation.Links.other_made, Lookups.{Laws.look_up_usable, Serials.found_serial}}
use Rattle.krs_model.proofs.{Lookups.Serials.refused_is, MadeKeyring.Which.made_still, Sound.Changes.Lessens}
use Rattle.krs_model.proofs.{Sound.{Changes.there_alter, Contents.form_stays}, Tables.Counts.{IsPart, none_part}}
use Rattle.krs_types.specs.declared.note.KeyEvent.TheVariants as told_of
use Rattle.std.proofs.lemmas.Grind.{common_steps}

-- the key that LINK links, and the one that UNLINK takes out
link_there :
    (s new : State) (client context : ℕ) (key ring : ℤ) (answer : Answer) (k : ℕ)
    → link s client context key ring ≡ Ok (new, answer) → named s client context key ≡ Ok k → IsSome (at new.keys k)
unfolding link
link_there s new client context key ring answer k h names =
    let a = bind_ok (context_of s client context) _ (new, answer) h in
    let own = bind_ok (context_of s client context) _ k names in
    let here : serial_of s a.0 key ≡ Ok k = search same_ok depth 8 in
    let made = made_for s context a.0 ring in
    let still = made_still s context a.0 ring key k here in
    let b = within_ok s (linked made.0 made.1 key ring) (new, answer) a.2 in
    let d = bind_ok (look_up made.0 made.1 ring (Granted WRITE)) _ (new, answer) b in
    let e = bind_ok (look_up made.0 made.1 key (Granted LINK)) _ (new, answer) d.2 in
    let f = bind_ok (linked_into made.0 d.0 e.0) _ (new, answer) e.2 in
    let found = found_serial made.0 made.1 key (Granted LINK) e.0 e.1 in
    let same : e.0.0 ≡ k = same_ok (serial_of made.0 made.1 key) e.0.0 k found still in
    let usable = look_up_usable made.0 made.1 key (Granted LINK) e.0 e.1 in
    let there : IsSome (at made.0.keys e.0.0) = rw usable.there refl in
    let change = linking made.0.keys (name_of e.0.1) e.0.0 in
    let after : IsSome (at f.0.keys e.0.0) = subst (λ (t : State). IsSome (at t.keys e.0.0))
    (linked_into_is made.0 d.0 e.0 f.0 f.1).is (there_alter made.0.keys d.0.0 change e.0.0 there) in
    let end : f.0 ≡ new = same_state (Ok (f.0, Nothing)) f.0 new Nothing answer refl f.2 in
    subst (λ (t : State). IsSome (at t.keys k)) end (subst (λ (n : ℕ). IsSome (at f.0.keys n)) same after)

unlink_there :
    (s new : State) (client context : ℕ) (key ring : ℤ) (answer : Answer) (k : ℕ)
    → unlink s client context key ring ≡ Ok (new, answer) → named s client context key ≡ Ok k
    → IsSome (at new.keys k)
unfolding unlink
unlink_there s new client context key ring answer k h names =
    grind (arith, nat_tests, bind_ok, same_ok, refused_is, same_state, there_alter)

cleared_part : (content : Content) → IsPart (links_of_content (cleared_content content)) (links_of_content content)
cleared_part (Payload bytes) = none_part []
cleared_part (Links links) = none_part links

cleared_form : (content : Content) → is_links (cleared_content content) ≡ is_links content
cleared_form (Payload bytes) = refl
cleared_form (Links links) = refl

cleared_lessens : Lessens cleared
cleared_lessens = search (cleared_part, form_stays, cleared_form) depth 8

cleared_blind : (h : List ℕ → List ℕ) (content : Content)
    → cleared_content (blind_content h content) ≡ blind_content h (cleared_content content)
cleared_blind h (Payload bytes) = refl
cleared_blind h (Links serials) = refl

other_found :
    (uid : ℕ) (private : ℕ → Bool) (s : State) (c : Context) (id : ℤ) (found : ℕ × Key) → HasToItself uid private s
    → IsOther uid private s c → look_up s c id (Granted LINK) ≡ Ok found → private found.0 ≡ true → ⊥
other_found uid private s c id found alone other is m = grind (arith, common_steps, not_found)

pub link_law : (s : State) (client context : ℕ) (key ring : ℤ) → IsLawful s client context (Link key ring)
unfolding link
link_law s client context key ring = record {
  small = search (about_link_small, small_there, link_there) depth 8;
  plain = search plains depth 12;
  blind = λ hide hides. is_seen (blind_done hide) (simp made_blind (search steps depth 12));
  fares =
      meets_after (context_of s client context) _ (λ c own.
      let made = made_for s context c ring in
      fares_within s _ (
      meets_after (look_up made.0 made.1 ring (Granted WRITE)) _ (λ into goes.
      meets_after (look_up made.0 made.1 key (Granted LINK)) _ (λ found is.
      meets_after (linked_into made.0 into found) _ (λ new linked.
      let there = (look_up_usable made.0 made.1 key (Granted LINK) found is).there in
      meets_ok (linked_fares s client context (Link key ring) c ring into found new own goes there linked
      (λ uid private stands alone holds m.
      other_found uid private made.0 made.1 key found (made_alone uid private s context c ring alone)
      (other_made uid private s client context c ring stands alone own (holds refl)) is m)))))));
}

pub unlink_law : (s : State) (client context : ℕ) (key ring : ℤ) → IsLawful s client context (Unlink key ring)
unfolding unlink
unlink_law s client context key ring = record {
  small = search (about_link_small, small_there, unlink_there) depth 8;
  plain = search plains depth 12;
  blind = λ hide hides. is_seen (blind_done hide) (search (steps, without_blind) depth 12);
  fares = search fares depth 12;
}

pub clear_law : (s : State) (client context : ℕ) (id : ℤ) → IsLawful s client context (Clear id)
unfolding clear
clear_law s client context id = record {
  small = λ mid answer few h. about_small told_of.Cleared (named s client context id);
  plain = search plains depth 12;
  blind = λ hide hides. is_seen (blind_done hide) (search (steps, cleared_blind) depth 12);
  fares = search (fares, cleared_lessens) depth 12;
}

plain_no_type : (type_name : List ℕ) → IsPlain (no_type type_name)
plain_no_type [] = plain_ok
plain_no_type (byte ∷ bytes) = plain_err refl

pub restrict_keyring_law :
    (s : State) (client context : ℕ) (ring : ℤ) (type_name : List ℕ)
    → IsLawful s client context (RestrictKeyring ring type_name)
unfolding restrict_keyring
restrict_keyring_law s client context ring type_name = record {
  small = λ mid answer few h. tt;
  plain = search (plains, plain_no_type) depth 12;
  blind = λ hide hides. is_seen (blind_done hide) (search steps depth 12);
  fares = search fares depth 12;
}

pub ruleset linked_laws = (link_law, unlink_law, clear_law, restrict_keyring_law)
