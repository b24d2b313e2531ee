-- What is proved of EXIT and LEAVE.
use Rattle.std.proofs.Common.{◌==◌, ◌∙◌, ◌≡◌, ap, Bool, cond, false, inl, IsSome, List, option_to_list, refl, subst}
use Rattle.std.proofs.Common.{sym, true, true≢false, ℕ}
use Rattle.std.specs.{List.list_any, Map.values_of}
use Rattle.krs_types.specs.declared.ask.{Answer.TheVariants.Nothing, Op.TheVariants.{Exit, Leave}}
use Rattle.krs_types.specs.declared.context.Context.{Context}
use Rattle.krs_model.specs.{Asks.Leaving.{exit, exited, has_process, has_uid, left}, Confidentiality.HasToItself}
use Rattle.krs_model.specs.{Hiding.{blind, Hiding}, Levels.is_in, Lookup.context_of, Sound.AllAttached, State.State}
use Rattle.krs_model.specs.{Sweep.{context_roots, process_roots, uid_roots}, Table.{at, Table, without}}
use Rattle.krs_model.proofs.Asks.{Fares.housed_fares, Houses.{Departs, Exits}, Lawful.IsLawful, NewSerials.IsWithin}
use Rattle.krs_model.proofs.Asks.{NewSerials.same_counts, Outcomes.{meets_after, meets_ok}, Plain.{plain_ok, plains}}
use Rattle.krs_model.proofs.Hiding.{Accepted.{accepted, blind_done}, Seen.{is_seen, steps}}
use Rattle.krs_model.proofs.Isolation.Attachments.{exited_unattached, left_unattached, process_of_one}
use Rattle.krs_model.proofs.{Isolation.{Guarded.Guarded, Untouched.AreSame}, Sound.Attached.attached_by}
use Rattle.krs_model.proofs.Sound.Attached.{attached_fewer, attached_without, attachments, context_keys, in_context}
use Rattle.krs_model.proofs.Sound.{Attached.{in_process, in_uid, own_process, uid_keys}, Changes.kept_some}
use Rattle.krs_model.proofs.Sound.{Changes.{same_stands, Stands}, Contexts.{exited_housed, left_housed, there_unless}}
use Rattle.krs_model.proofs.{Sound.NewContexts.{ArePlaced, in_placed, placed_in}, Tables.Changes.at_kept}

left_within : (s : State) (client : ℕ) → IsWithin s (left s client)
unfolding left
left_within s client = same_counts s (left s client) refl

left_stands : (s : State) (client : ℕ) → Stands s → Stands (left s client)
unfolding left
left_stands s client stands =
    let after = left s client in
    let attached : AllAttached after = λ k i.
    attached_by (context_roots after.contexts) (process_roots after.processes) (uid_roots after.uids) k
    (λ h. stands.attached k (in_context s k (attached_fewer context_keys _ s.contexts k h)))
    (λ h. stands.attached k (in_process s k (attached_fewer option_to_list _ s.processes k h)))
    (λ h. stands.attached k (in_uid s k (attached_fewer uid_keys _ s.uids k h))) i in
    let placed : ArePlaced after.contexts after.processes = λ p i.
    let was = placed_in s stands.placed p (attached_fewer own_process _ s.contexts p i) in
    let kept = process_of_one after.contexts p ∙ i in
    subst IsSome (sym (at_kept (λ q. list_any (λ c. c.process == q) (values_of after.contexts)) s.processes p))
    (kept_some _ (at s.processes p) kept was) in
    search (same_stands, in_placed, left_housed) depth 8

-- an entry goes where a test fails
attached_unless :
    {X : Type 0} (g : X → List ℕ) (stays : Bool) (es : Table X) (k q : ℕ)
    → is_in q (attachments g (cond stays es (without es k))) ≡ true → is_in q (attachments g es) ≡ true
attached_unless g true es k q h = h
attached_unless g false es k q h = attached_without g es k q h

exited_stands : (s : State) (number : ℕ) (c : Context) → Stands s → Stands (exited s number c)
exited_stands s number c stands =
    let after = exited s number c in
    let attached : AllAttached after = λ k i.
    attached_by (context_roots after.contexts) (process_roots after.processes) (uid_roots after.uids) k
    (λ h. stands.attached k (in_context s k (attached_without context_keys s.contexts number k h)))
    (λ h. stands.attached k (in_process s k
    (attached_unless option_to_list (has_process after.contexts c.process) s.processes c.process k h)))
    (λ h. stands.attached k (in_uid s k
    (attached_unless uid_keys (has_uid after.contexts c.caller.uid) s.uids c.caller.uid k h))) i in
    let placed : ArePlaced after.contexts after.processes = λ p i.
    there_unless (has_process after.contexts) s.processes c.process p (has_process after.contexts c.process) refl
    (process_of_one after.contexts p ∙ i)
    (placed_in s stands.placed p (attached_without own_process s.contexts number p i)) in
    search (same_stands, in_placed, exited_housed) depth 8

left_blind : (hide : Hiding) (s : State) (client : ℕ) → left (blind hide s) client ≡ blind hide (left s client)
unfolding left
left_blind hide s client = refl

left_guarded :
    (uid : ℕ) (private : ℕ → Bool) (P : Type 0) (s : State) (client : ℕ) → HasToItself uid private s
    → Guarded uid private P (left s client)
unfolding left
left_guarded uid private P s client alone = search left_unattached depth 8

left_same : (private : ℕ → Bool) (s : State) (client : ℕ) → AreSame private s.keys (left s client).keys
unfolding left
left_same private s client = λ k m. refl

pub exit_law : (s : State) (client context : ℕ) → IsLawful s client context Exit
unfolding exit
exit_law s client context = record {
  small = λ mid answer few h. tt;
  plain = search plains depth 12;
  blind = λ hide hides. is_seen (blind_done hide) (search steps);
  fares =
      meets_after (context_of s client context) _ (λ c own.
      meets_ok (housed_fares s client context _ _ _ _ _ (Exits c refl own) (λ stands. exited_stands s context c stands)
      (λ uid private stands alone.
      exited_unattached uid private s context c stands.housed.uids_rise alone.unattached)));
}

pub leave_law : (s : State) (client context : ℕ) → IsLawful s client context Leave
leave_law s client context = record {
  small = λ mid answer few h. tt;
  plain = plain_ok;
  blind = λ hide hides. ap (λ (t : State). accepted t Nothing) (left_blind hide s client);
  fares =
      meets_ok (record {
        comes = λ other. absurd (true≢false other);
        counts = λ placed. left_within s client;
        houses = Departs refl;
        stands = λ stands. left_stands s client stands;
        guards = λ uid private stands alone. left_guarded uid private _ s client alone;
        keeps = λ uid private stands alone other. inl (left_same private s client);
      });
}

pub ruleset leaving_laws = (exit_law, leave_law)
