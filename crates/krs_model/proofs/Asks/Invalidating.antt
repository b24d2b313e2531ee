-- What is proved of INVALIDATE.
use Rattle.std.proofs.Common.{◌∙◌, ◌≡◌, ap, arith, inr, None, Option, option_map, option_to_list, refl, Some, true, ℕ}
use Rattle.std.proofs.{Common.ℤ, lemmas.Bool.Decides.nat_tests}
use Rattle.krs_types.specs.declared.ask.{Answer.TheVariants.Nothing, Op.TheVariants.Invalidate}
use Rattle.krs_types.specs.{declared.rights.Want.TheVariants.Granted, Rights.SEARCH}
use Rattle.krs_model.specs.Asks.Invalidating.{context_without, detached, invalidate, invalidated, rings_without}
use Rattle.krs_model.specs.{Asks.Linked.without_link, Hiding.{blind, Hiding}, Lookup.{context_of, look_up}}
use Rattle.krs_model.specs.{Notes.Telling.named, Queues.queues_of, Sound.AllAttached, State.{Key, State}}
use Rattle.krs_model.specs.{Sweep.{context_roots, process_roots, uid_roots}, Table.map_values}
use Rattle.krs_model.proofs.Asks.{Houses.Detaches, Later.{Comes, is_gone}, Lawful.IsLawful, NewSerials.same_counts}
use Rattle.krs_model.proofs.Asks.{NotedKeys.about_small, Outcomes.{meets_after, meets_ok}, Plain.plains}
use Rattle.krs_model.proofs.Hiding.{Accepted.{accepted, blind_done, found_in}, Keys.map_blind, Links.without_blind}
use Rattle.krs_model.proofs.Isolation.{Attachments.invalidated_unattached, Keys.mapped_enclosed}
use Rattle.krs_model.proofs.Sound.Attached.{attached_by, attached_mapped, context_keys, in_context, in_process}
use Rattle.krs_model.proofs.Sound.{Attached.{in_uid, own_process, uid_keys}, Changes.{mapped_stands, same_stands}}
use Rattle.krs_model.proofs.Sound.{Changes.{Stands, there_map}, Contexts.mapped_housed, KeyChanges.both_in}
use Rattle.krs_model.proofs.Sound.{KeyChanges.{detached_in, unlinked_lessens}, NewContexts.{ArePlaced, in_placed}}
use Rattle.krs_model.proofs.{Sound.NewContexts.placed_in, Tables.{Changes.at_map, Counts.part_in}}
use Rattle.krs_types.specs.declared.note.KeyEvent.TheVariants as told_of

gone_mapped : (f : Key → Key) (o : Option Key) → ((v : Key) → (f v).revoked ≡ v.revoked) → is_gone o ≡ true
    → is_gone (option_map f o) ≡ true
gone_mapped f None same h = h
gone_mapped f (Some v) same h = same v ∙ h

-- all keys change, and none is less revoked
mapped_comes :
    (old new : State) (f : Key → Key) → ((v : Key) → (f v).revoked ≡ v.revoked)
    → new.keys ≡ map_values f old.keys → new.next_serial ≡ old.next_serial → queues_of new ≡ queues_of old
    → new.clock ≡ old.clock → Comes old new
mapped_comes old new f same keys next queues clock = grind (arith, nat_tests, at_map, gone_mapped, there_map)

-- a key that goes out of every keyring and every attachment
invalidated_stands : (s : State) (serial : ℕ) → Stands s → Stands (invalidated s serial)
invalidated_stands s serial stands =
    let one : State = record s { keys = map_values (without_link serial) s.keys } in
    let first : Stands one = mapped_stands s (without_link serial) (unlinked_lessens serial) stands in
    let after = invalidated s serial in
    let attached : AllAttached after = λ k i.
    attached_by (context_roots after.contexts) (process_roots after.processes) (uid_roots after.uids) k
    (λ h. first.attached k (in_context one k (attached_mapped context_keys (context_without serial) s.contexts k
    (λ v j. both_in serial k v.thread v.session j) h)))
    (λ h. first.attached k (in_process one k (attached_mapped option_to_list (detached serial) s.processes k
    (λ v j. detached_in serial k v j) h)))
    (λ h. first.attached k (in_uid one k (attached_mapped uid_keys (rings_without serial) s.uids k
    (λ v j. both_in serial k v.user v.session j) h))) i in
    let placed : ArePlaced after.contexts after.processes = λ p i.
    there_map (detached serial) s.processes p
    (placed_in s stands.placed p (attached_mapped own_process (context_without serial) s.contexts p (λ v j. j) i)) in
    search (same_stands, in_placed, mapped_housed) depth 8

-- INVALIDATE
invalidated_blind : (hide : Hiding) (s : State) (serial : ℕ)
    → invalidated (blind hide s) serial ≡ blind hide (invalidated s serial)
invalidated_blind hide s serial = search (map_blind, without_blind) depth 8

pub invalidate_law : (s : State) (client context : ℕ) (id : ℤ) → IsLawful s client context (Invalidate id)
unfolding invalidate
invalidate_law s client context id = record {
  small = λ mid answer few h. about_small told_of.Invalidated (named s client context id);
  plain = search plains depth 12;
  blind = λ hide hides.
      found_in hide s client context id (Granted SEARCH) (blind_done hide) _ _ (λ c found _ _.
      ap (λ (t : State). accepted t Nothing) (invalidated_blind hide s found.0));
  fares =
      meets_after (context_of s client context) _ (λ c own.
      meets_after (look_up s c id (Granted SEARCH)) _ (λ gone is.
      meets_ok (record {
        comes = λ other. mapped_comes s (invalidated s gone.0) (without_link gone.0) (λ v. refl) refl refl refl refl;
        counts = λ placed. same_counts s (invalidated s gone.0) refl;
        houses = Detaches c id gone refl own is;
        stands = λ stands. invalidated_stands s gone.0 stands;
        guards = λ uid private stands alone. record {
          made = alone.made;
          enclosed = λ p. mapped_enclosed uid private s.keys (without_link gone.0) (λ v h. h)
              (λ v k i. part_in _ _ k ((unlinked_lessens gone.0).links v) i) alone.enclosed;
          unattached = invalidated_unattached uid private s gone.0 alone.unattached;
        };
        keeps = λ uid private stands alone other. inr (record {
          id = id;
          whose = c;
          gone = gone;
          asked = refl;
          own = own;
          found = is;
          left = refl;
        });
      })));
}
