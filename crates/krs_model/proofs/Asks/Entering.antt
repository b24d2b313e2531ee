-- What is proved of THREAD, FORK and EXEC.
use Rattle.std.proofs.Common.{arith, option_to_list, refl, ℕ}
use Rattle.krs_types.specs.declared.ask.Op.TheVariants.{Exec, Fork, Thread}
use Rattle.krs_model.specs.Asks.Entering.{exec, fork, if_context_number, thread, without_thread}
use Rattle.krs_model.specs.{Asks.Hello.has_context_left, Lookup.context_of, Possession.process_ring, State.State}
use Rattle.krs_model.proofs.Asks.{Fares.housed_fares, Houses.{Enters, Execs, Forked, Threads}, Lawful.IsLawful}
use Rattle.krs_model.proofs.{Asks.{Outcomes.{meets_after, meets_ok}, Plain.plains}, Hiding.Accepted.blind_done}
use Rattle.krs_model.proofs.{Hiding.Seen.{is_seen, steps}, Isolation.Attachments.{attaches_none, entered_unattached}}
use Rattle.krs_model.proofs.Isolation.{Attachments.{execed_unattached, threaded_unattached}, Guarded.next_apart}
use Rattle.krs_model.proofs.{Lookups.Serials.own_there, Reach.Levels.in_right, Sound.Contexts.owner_there}
use Rattle.krs_model.proofs.Sound.NewContexts.{context_stands, entered_stands, execed_stands, own_process_there}
use Rattle.krs_model.proofs.Sound.NewContexts.{own_session_there}

pub thread_law : (s : State) (client context : ℕ) → IsLawful s client context Thread
unfolding thread
thread_law s client context = record {
  small = λ mid answer few h. tt;
  plain = search plains depth 12;
  blind = λ hide hides. is_seen (blind_done hide) (search steps depth 12);
  fares =
      meets_after (context_of s client context) _ (λ c own.
      meets_after (has_context_left s client) _ (λ room left.
      meets_after (if_context_number s) _ (λ number _.
      let is = own_there s client context c own in
      meets_ok (housed_fares s client context _ _ _ _ _ (Threads c room refl own left)
      (λ stands. context_stands s (without_thread c) (λ k i. own_session_there s context c k is stands i)
      (own_process_there s context c is stands.placed) (owner_there s.contexts s.uids context c is stands.housed.owned)
      stands)
      (λ uid private stands alone. threaded_unattached uid private s context c is alone.unattached)))));
}

pub fork_law : (s : State) (client context : ℕ) → IsLawful s client context Fork
unfolding fork
fork_law s client context = record {
  small = λ mid answer few h. tt;
  plain = search plains depth 12;
  blind = λ hide hides. is_seen (blind_done hide) (search steps depth 12);
  fares =
      meets_after (context_of s client context) _ (λ c own.
      meets_after (has_context_left s client) _ (λ room left.
      meets_after (if_context_number s) _ (λ number _.
      let is = own_there s client context c own in
      meets_ok (housed_fares s client context _ _ _ _ _ (Enters c.caller c.session room (Forked c refl own) left)
      (λ stands. entered_stands s client c.caller c.session (λ k i. own_session_there s context c k is stands i)
      (owner_there s.contexts s.uids context c is stands.housed.owned) stands)
      (λ uid private stands alone. entered_unattached uid private s client c.caller c.session
      (λ other k m i. attaches_none uid private s context c alone.unattached is other k m
      (in_right k (option_to_list c.thread) _ (in_right k (option_to_list (process_ring s c.process)) _ i)))
      (stands.housed.no_process s.next_context (omega arith)) stands.placed alone.unattached)))));
}

pub exec_law : (s : State) (client context : ℕ) → IsLawful s client context Exec
unfolding exec
exec_law s client context = record {
  small = λ mid answer few h. tt;
  plain = search plains depth 12;
  blind = λ hide hides. is_seen (blind_done hide) (search steps depth 12);
  fares =
      meets_after (context_of s client context) _ (λ c own.
      meets_ok (housed_fares s client context _ _ _ _ _ (Execs c refl own) (λ stands. execed_stands s context c stands)
      (λ uid private stands alone.
      execed_unattached uid private s context c (next_apart uid private s alone) alone.unattached)));
}

pub ruleset entering_laws = (thread_law, fork_law, exec_law)
