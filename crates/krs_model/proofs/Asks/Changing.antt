-- What is proved of UPDATE, REVOKE, CHOWN, SET_PERM and SET_TIMEOUT.
use Rattle.std.proofs.Common.{[], ◌∙◌, ◌∷◌, ◌≡◌, ap, arith, Err, List, None, Ok, refl, Result, sym, true, ℕ, ℤ}
use Rattle.std.proofs.lemmas.Bool.Decides.{nat_tests}
use Rattle.krs_types.specs.declared.ask.{Answer.TheVariants.Nothing, Op.TheVariants.{Chown, Revoke, SetPerm}}
use Rattle.krs_types.specs.declared.{ask.Op.TheVariants.{SetTimeout, Update}, context.Context.Context}
use Rattle.krs_types.specs.declared.{errno.Errno.Errno, kind.Kind.{Kind, TheVariants.Keyring}}
use Rattle.krs_types.specs.{declared.rights.Want.TheVariants.Granted, Kind.paid, Perm.perm_of, Refusing.◌>>=◌}
use Rattle.krs_types.specs.Rights.{SETATTR, WRITE}
use Rattle.krs_model.specs.Asks.Changing.{changed, chown, emptied, if_may_own, if_owner, revoke, revoked, set_perm}
use Rattle.krs_model.specs.Asks.Changing.{set_timeout, updatable, update, updated, with_owner, with_perm}
use Rattle.krs_model.specs.Hiding.{blind, blind_content, blind_key, hidden_at, Hides, Hiding, over}
use Rattle.krs_model.specs.{Lookup.{context_of, look_up}, Notes.Telling.named, Possession.links_of_content}
use Rattle.krs_model.specs.{Sound.is_links, State.{Content, Key, Links, Payload, State}}
use Rattle.krs_model.proofs.Asks.{Fares.{changed_fares, fares}, Lawful.IsLawful, NotedKeys.about_small}
use Rattle.krs_model.proofs.{Asks.{Outcomes.{meets_after, meets_ok}, Plain.plains}, Hiding.Accepted.blind_done}
use Rattle.krs_model.proofs.Hiding.{Accepted.{done_changed, found_in, named_is, paid_blind}, Over.after, Seen.is_seen}
use Rattle.krs_model.proofs.{Hiding.Seen.steps, Isolation.Guarded.none_found, Sound.Changes.Lessens}
use Rattle.krs_model.proofs.{Sound.{Contents.form_stays, KeyChanges.leaves}, Tables.Counts.{IsPart, none_part}}
use Rattle.krs_types.specs.declared.note.KeyEvent.TheVariants as told_of

emptied_part : (content : Content) → IsPart (links_of_content (emptied content)) (links_of_content content)
emptied_part (Payload bytes) = none_part []
emptied_part (Links links) = none_part links

emptied_form : (content : Content) → is_links (emptied content) ≡ is_links content
emptied_form (Payload bytes) = refl
emptied_form (Links links) = refl

revoked_lessens : Lessens revoked
revoked_lessens = search (emptied_part, form_stays, emptied_form) depth 8

-- a payload without bytes is hidden as itself
none_hidden : (hide : Hiding) (n : ℕ) → Hides hide → hide n [] ≡ []
none_hidden hide n hides =
    elim (hide n []) as (λ (bytes : List ℕ). paid Keyring bytes ≡ paid Keyring [] → bytes ≡ []) [
      | [] ↦ λ e. refl
      | x ∷ xs ↦ λ e. grind (arith, nat_tests)
    ] (hides n Keyring [])

emptied_blind : (h : List ℕ → List ℕ) (content : Content) → h [] ≡ []
    → emptied (blind_content h content) ≡ blind_content h (emptied content)
emptied_blind h (Payload bytes) none = ap Payload (sym none)
emptied_blind h (Links serials) none = refl

revoked_blind : (hide : Hiding) → Hides hide → (n : ℕ) (v : Key)
    → revoked (blind_key (hide n) v) ≡ blind_key (hide n) (revoked v)
revoked_blind hide hides n v = ap (λ (content : Content). record v { revoked = true; content = content })
    (emptied_blind (hide n) v.content (none_hidden hide n hides))

-- an UPDATE with another payload, which the same types take, and which is the hidden one of the key that it finds
update_blind :
    (hide : Hiding) (s : State) (client context : ℕ) (id : ℤ) (payload other : List ℕ)
    → ((kind : Kind) → paid kind other ≡ paid kind payload)
    → ((c : Context) (found : ℕ × Key) → context_of s client context ≡ Ok c
    → look_up s c id (Granted WRITE) ≡ Ok found → other ≡ hide found.0 payload)
    → update (blind hide s) client context id other ≡ over (blind_done hide) (update s client context id payload)
unfolding update
update_blind hide s client context id payload other fits is =
    found_in hide s client context id (Granted WRITE) (blind_done hide) _ _ (λ c found own there.
    after (blind_done hide) (updatable found.1.kind) _ _ (λ kind _.
    ap (λ (r : Result (Unit {0}) Errno). r
    >>= (λ fit. Ok (changed (blind hide s) found.0 (updated other), Nothing))) (fits kind)
    ∙ after (blind_done hide) (paid kind payload) _ _ (λ fit _.
    done_changed hide s found.0 (updated payload) (updated other) Nothing (λ v.
    ap (λ (content : Content). record v { content = content; expiry = None })
    (paid_blind (hide found.0) payload other v.content (is c found own there))))))

-- the same types take a hidden payload
at_fits : (hide : Hiding) (serial : Result ℕ Errno) (payload : List ℕ) (kind : Kind) → Hides hide
    → paid kind (hidden_at hide serial payload) ≡ paid kind payload
at_fits hide (Ok n) payload kind hides = hides n kind payload
at_fits hide (Err e) payload kind hides = hides 0 kind payload

pub update_law :
    (s : State) (client context : ℕ) (id : ℤ) (payload : List ℕ) → IsLawful s client context (Update id payload)
unfolding update
update_law s client context id payload = record {
  small = λ mid answer few h. about_small told_of.Updated (named s client context id);
  plain = search plains depth 12;
  blind = λ hide hides.
      update_blind hide s client context id payload (hidden_at hide (named s client context id) payload)
      (λ kind. at_fits hide (named s client context id) payload kind hides)
      (λ c found own there. ap (λ (serial : Result ℕ Errno). hidden_at hide serial payload)
      (named_is s client context id (Granted WRITE) c found own there));
  fares = search fares depth 12;
}

pub revoke_law : (s : State) (client context : ℕ) (id : ℤ) → IsLawful s client context (Revoke id)
unfolding revoke
revoke_law s client context id = record {
  small = λ mid answer few h. about_small told_of.Revoked (named s client context id);
  plain = search plains depth 12;
  blind = λ hide hides.
      is_seen (blind_done hide) (search (steps, revoked_blind hide hides) depth 12);
  fares = search (fares, revoked_lessens) depth 12;
}

pub chown_law : (s : State) (client context : ℕ) (id : ℤ) (to gid : ℕ) → IsLawful s client context (Chown id to gid)
unfolding chown
chown_law s client context id to gid = record {
  small = λ mid answer few h. about_small told_of.Setattr (named s client context id);
  plain = search plains depth 12;
  blind = λ hide hides. is_seen (blind_done hide) (search steps depth 12);
  fares =
      meets_after (context_of s client context) _ (λ c own.
      meets_after (look_up s c id (Granted SETATTR)) _ (λ found is.
      meets_after (if_may_own c.caller to gid found.1) _ (λ allowed _.
      let same = leaves (with_owner to gid) (λ v. refl) (λ v name. refl) (λ v fits. fits) in
      meets_ok (changed_fares s client context _ c id (Granted SETATTR) found (with_owner to gid) own is refl same
      (λ v h. h) (λ uid private alone holds v m h. absurd
      (none_found uid private s client context c id (Granted SETATTR) found alone own (holds refl) refl is m))))));
}

pub set_perm_law : (s : State) (client context : ℕ) (id : ℤ) (mask : ℕ) → IsLawful s client context (SetPerm id mask)
unfolding set_perm
set_perm_law s client context id mask = record {
  small = λ mid answer few h. about_small told_of.Setattr (named s client context id);
  plain = search plains depth 12;
  blind = λ hide hides. is_seen (blind_done hide) (search steps depth 12);
  fares =
      meets_after (context_of s client context) _ (λ c own.
      meets_after (look_up s c id (Granted SETATTR)) _ (λ found is.
      meets_after (perm_of mask) _ (λ perm _.
      meets_after (if_owner c.caller found.1) _ (λ allowed _.
      let same = leaves (with_perm perm) (λ v. refl) (λ v name. refl) (λ v fits. fits) in
      meets_ok (changed_fares s client context _ c id (Granted SETATTR) found (with_perm perm) own is refl same
      (λ v h. h) (λ uid private alone holds v m h. absurd
      (none_found uid private s client context c id (Granted SETATTR) found alone own (holds refl) refl is m)))))));
}

pub set_timeout_law :
    (s : State) (client context : ℕ) (id : ℤ) (seconds : ℕ) → IsLawful s client context (SetTimeout id seconds)
unfolding set_timeout
set_timeout_law s client context id seconds = record {
  small = λ mid answer few h. about_small told_of.Setattr (named s client context id);
  plain = search plains depth 12;
  blind = λ hide hides. is_seen (blind_done hide) (search steps depth 12);
  fares = search fares depth 12;
}

pub ruleset changing_laws = (update_law, revoke_law, chown_law, set_perm_law, set_timeout_law)
