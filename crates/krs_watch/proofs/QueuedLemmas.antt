-- Watches whose queues are there, after a change of the queues or of the watches.
use Rattle.std.proofs.Common.{[], ⊎_elim, ◌&&◌, ◌==◌, ◌||◌, ◌∙◌, ◌∷◌, ◌≡◌, ap, arith, Bool, cond, Err, false, filter}
use Rattle.std.proofs.Common.{is_some, IsOk, IsSome, List, nat_cmp, None, not, Ok, Option, refl, Result, Some, subst}
use Rattle.std.proofs.Common.{sym, true, true≢false, ℕ}
use Rattle.std.specs.{BTreeMap.is_at, Cmp.{eq_by_cmp_equiv, nat_cmp_total}, List.list_any, Map.keys_of}
use Rattle.std.proofs.lemmas.{Bool.Decides.nat_tests, Map.{lookup-none, Entries.none_past_head}}
use Rattle.std.proofs.lemmas.{Map.Keys.{IsDistinct-from_sorted, sorted_tail}, Option.none-some}
use Rattle.krs_types.specs.declared.fault.Fault.{Fault}
use Rattle.krs_model.specs.{Asks.Watching.{after_read, watches_of}, Notes.Posting.{after_note, Post, post_all}}
use Rattle.krs_model.specs.Queues.{queue_of, queues_without, Watch, with_watch, without_watch}
use Rattle.krs_model.specs.{State.Queue, Table.{alter, at, put, Rises, Table, without}}
use Rattle.krs_model.proofs.{Notes.Fitting.{each_filter, each_on}, Reach.Levels.same_is}
use Rattle.krs_model.proofs.Sound.{Changes.{there_alter, there_put}, Watches.{each_with, each_without}}
use Rattle.krs_model.proofs.Tables.{Changes.{at_or_apart, at_without_other}, Distinct.{has_entry, same_test}}
use Rattle.krs_watch.specs.{Offers.{offer_all, offered}, Reads.ReadsAt, Watched.{AreQueued, IsQueued, owns}}

-- ---- changes of queues
pub queued_put :
    (es fs : Table Queue) (ws : List Watch) (n : ℕ) (v : Queue) → fs ≡ put es n v → AreQueued es ws → AreQueued fs ws
queued_put es fs ws n v is are =
    each_on (IsQueued es) (IsQueued fs) ws
    (λ w there. subst (λ (t : Table Queue). IsQueued t w) (sym is) (there_put es n w.0.1 v there)) are

pub queued_alter :
    (es fs : Table Queue) (ws : List Watch) (n : ℕ) (f : Queue → Queue) → fs ≡ alter es n f → AreQueued es ws
    → AreQueued fs ws
queued_alter es fs ws n f is are =
    each_on (IsQueued es) (IsQueued fs) ws
    (λ w there. subst (λ (t : Table Queue). IsQueued t w) (sym is) (there_alter es n f w.0.1 there)) are

after_posts : (ps : List Post) (es : Table Queue) (ws : List Watch) → AreQueued es ws → AreQueued (post_all ps es) ws
after_posts [] es ws are = are
after_posts (p ∷ ps) es ws are =
    let fs = alter es p.0 (after_note p.1) in
    after_posts ps fs ws (queued_alter es fs ws p.0 (after_note p.1) refl are)

pub queued_post :
    (ps : List Post) (es fs : Table Queue) (ws : List Watch) → fs ≡ post_all ps es → AreQueued es ws → AreQueued fs ws
queued_post ps es fs ws is are = subst (λ (t : Table Queue). AreQueued t ws) (sym is) (after_posts ps es ws are)

after_offers : (ps : List Post) (es : Table Queue) (ws : List Watch) → AreQueued es ws → AreQueued (offer_all ps es) ws
after_offers [] es ws are = are
after_offers (p ∷ ps) es ws are =
    let fs = alter es p.0 (offered p.1) in
    after_offers ps fs ws (queued_alter es fs ws p.0 (offered p.1) refl are)

pub queued_offer :
    (ps : List Post) (es fs : Table Queue) (ws : List Watch) → fs ≡ offer_all ps es → AreQueued es ws → AreQueued fs ws
queued_offer ps es fs ws is are = subst (λ (t : Table Queue). AreQueued t ws) (sym is) (after_offers ps es ws are)

own_there :
    (client : ℕ) (o : Option Queue) (es : Table Queue) (n : ℕ) → at es n ≡ o → IsOk (queue_of es client n)
    → (q : Queue) × (o ≡ Some q)
own_there client (Some q) es n is own = (q, refl)
own_there client None es n is own = absurd cc

-- a queue that is the client's is there
pub owned_there : (es : Table Queue) (client n : ℕ) → IsOk (queue_of es client n) → IsSome (at es n)
owned_there es client n own =
    let q = own_there client (at es n) es n refl own in ap is_some q.1

pub queued_read :
    (n room client : ℕ) (es new : Table Queue) (result : Result (List ℕ) Fault) (ws : List Watch)
    → IsOk (queue_of es client n) → ReadsAt n room es result new → AreQueued es ws → AreQueued new ws
queued_read n room client es new (Ok bytes) ws own reads are =
    let q = own_there client (at es n) es n refl own in
    queued_alter es new ws n (after_read room) (reads q.0 q.1).2 are
queued_read n room client es new (Err e) ws own reads are =
    subst (λ (t : Table Queue). AreQueued t ws) (sym reads.1) are

-- ---- changes of watches
pub queued_with :
    (es : Table Queue) (ws vs : List Watch) (key n id : ℕ) → IsSome (at es n) → vs ≡ with_watch ws key n id
    → AreQueued es ws → AreQueued es vs
queued_with es ws vs key n id there is are =
    subst (AreQueued es) (sym is) (each_with (IsQueued es) ws key n id there (λ w here. here) are)

pub queued_less :
    (es : Table Queue) (ws vs : List Watch) (key n : ℕ) → vs ≡ without_watch ws key n → AreQueued es ws
    → AreQueued es vs
queued_less es ws vs key n is are = subst (AreQueued es) (sym is) (each_without (IsQueued es) ws key n are)

pub queued_kept :
    (es : Table Queue) (p : Watch → Bool) (ws vs : List Watch) → vs ≡ filter p ws → AreQueued es ws → AreQueued es vs
queued_kept es p ws vs is are = subst (AreQueued es) (sym is) (each_filter (IsQueued es) p ws are)

-- ---- queues that go with their watches
kept_on :
    (es new : Table Queue) (p : Watch → Bool) (ws : List Watch)
    → ((w : Watch) → p w ≡ true → IsQueued es w → IsQueued new w) → AreQueued es ws → AreQueued new (filter p ws)
kept_on es new p [] f are = tt
kept_on es new p (w ∷ ws) f are =
    elim (p w) as (λ b. p w ≡ b → AreQueued new (cond b (w ∷ filter p ws) (filter p ws))) [
      | true ↦ λ t. (f w t are.0, kept_on es new p ws f are.1)
      | false ↦ λ t. kept_on es new p ws f are.1
    ] refl

-- without a queue
pub queued_closed :
    (es fs : Table Queue) (n : ℕ) (ws vs : List Watch) → fs ≡ without es n → vs ≡ filter (λ w. not (w.0.1 == n)) ws
    → AreQueued es ws → AreQueued fs vs
queued_closed es fs n ws vs is left are =
    subst (AreQueued fs) (sym left) (kept_on es fs (λ w. not (w.0.1 == n)) ws (λ w other there.
    ⊎_elim (λ (same : w.0.1 ≡ n). absurd (true≢false (sym other ∙ ap not (same_is w.0.1 n same))))
    (λ apart. subst (λ (t : Table Queue). IsQueued t w) (sym is)
    (subst IsSome (sym (at_without_other es n w.0.1 apart)) there)) (at_or_apart w.0.1 n)) are)

-- without those of a client
those_of : (es : Table Queue) (ws : List Watch) → AreQueued es (watches_of es ws)
those_of es [] = tt
those_of es (w ∷ ws) =
    elim (list_any (λ e. e.0 == w.0.1) es) as
    (λ b. list_any (λ e. e.0 == w.0.1) es ≡ b → AreQueued es (cond b (w ∷ watches_of es ws) (watches_of es ws))) [
      | true ↦ λ t. (has_entry es w.0.1 ∙ t, those_of es ws)
      | false ↦ λ t. those_of es ws
    ] refl

pub queued_left :
    (ws vs : List Watch) (es fs : Table Queue) → fs ≡ es → vs ≡ watches_of es ws → AreQueued fs vs
queued_left ws vs es fs is left =
    subst (λ (t : Table Queue). AreQueued t vs) (sym is) (subst (AreQueued es) (sym left) (those_of es ws))

-- the first number stands nowhere after
past : (e : ℕ × Queue) (es : Table Queue) → Rises (e ∷ es) → (n : ℕ) → is_at (nat_cmp n) e.0 ≡ true → at es n ≡ None
past e es rises n t =
    lookup-none (is_at (nat_cmp n)) es
    (none_past_head (eq_by_cmp_equiv nat_cmp_total) n e es (IsDistinct-from_sorted nat_cmp (keys_of (e ∷ es)) rises) t)

never : (client n : ℕ) (es : Table Queue) → at es n ≡ None → owns client n es ≡ false
never client n [] none = refl
never client n (e ∷ es) none =
    let test = same_test n e.0 in
    elim (e.0 == n) as (λ b. (e.0 == n) ≡ b → ((b && (e.1.client == client)) || owns client n es) ≡ false) [
      | true ↦ λ t. absurd (none-some e.1 (sym none ∙ ap (λ b. cond b (Some e.1) (at es n)) (test ∙ t)))
      | false ↦ λ t. never client n es (ap (λ b. cond b (Some e.1) (at es n)) (sym (test ∙ t)) ∙ none)
    ] refl

not_left :
    (client n : ℕ) (es : Table Queue) → at es n ≡ None → list_any (λ e. e.0 == n) (queues_without client es) ≡ false
not_left client n [] none = refl
not_left client n (e ∷ es) none =
    let test = same_test n e.0 in
    let rest = queues_without client es in
    elim (e.0 == n) as (λ b. (e.0 == n) ≡ b
    → list_any (λ d. d.0 == n) (cond (not (e.1.client == client)) (e ∷ rest) rest) ≡ false) [
      | true ↦ λ t. absurd (none-some e.1 (sym none ∙ ap (λ b. cond b (Some e.1) (at es n)) (test ∙ t)))
      | false ↦ λ t.
          let later = not_left client n es (ap (λ b. cond b (Some e.1) (at es n)) (sym (test ∙ t)) ∙ none) in
          elim (e.1.client == client) as (λ c. list_any (λ d. d.0 == n) (cond (not c) (e ∷ rest) rest) ≡ false) [
            | true ↦ later
            | false ↦ ap (λ b. b || list_any (λ d. d.0 == n) rest) t ∙ later
          ]
    ] refl

-- a queue that is there stays where it is not the client's
owned_or_left :
    (client n : ℕ) (es : Table Queue) → Rises es → IsSome (at es n)
    → not (owns client n es) ≡ list_any (λ e. e.0 == n) (queues_without client es)
owned_or_left client n [] rises there = absurd (true≢false (sym there))
owned_or_left client n (e ∷ es) rises there =
    let test = same_test n e.0 in
    let rest = queues_without client es in
    elim (e.0 == n) as (λ b. (e.0 == n) ≡ b → not ((b && (e.1.client == client)) || owns client n es)
    ≡ list_any (λ d. d.0 == n) (cond (not (e.1.client == client)) (e ∷ rest) rest)) [
      | true ↦ λ t.
          let none : at es n ≡ None = past e es rises n (test ∙ t) in
          elim (e.1.client == client) as
          (λ c. not (c || owns client n es) ≡ list_any (λ d. d.0 == n) (cond (not c) (e ∷ rest) rest)) [
            | true ↦ sym (not_left client n es none)
            | false ↦ ap not (never client n es none) ∙ sym (ap (λ b. b || list_any (λ d. d.0 == n) rest) t)
          ]
      | false ↦ λ t.
          let later = owned_or_left client n es (sorted_tail nat_cmp e.0 (keys_of es) rises)
          (sym (ap (λ b. is_some (cond b (Some e.1) (at es n))) (test ∙ t)) ∙ there) in
          elim (e.1.client == client) as
          (λ c. not (owns client n es) ≡ list_any (λ d. d.0 == n) (cond (not c) (e ∷ rest) rest)) [
            | true ↦ later
            | false ↦ later ∙ sym (ap (λ b. b || list_any (λ d. d.0 == n) rest) t)
          ]
    ] refl

-- the watches that stay as a client's end are those whose queue stays
pub left_are :
    (client : ℕ) (es : Table Queue) (ws : List Watch) → Rises es → AreQueued es ws
    → filter (λ w. not (owns client w.0.1 es)) ws ≡ watches_of (queues_without client es) ws
left_are client es [] rises are = refl
left_are client es (w ∷ ws) rises are =
    let rest = watches_of (queues_without client es) ws in
    ap (λ vs. cond (not (owns client w.0.1 es)) (w ∷ vs) vs) (left_are client es ws rises are.1)
    ∙ ap (λ b. cond b (w ∷ rest) rest) (owned_or_left client w.0.1 es rises are.0)

-- ---- queue by queue
-- the watches of one queue of the client end, then those of the others
pub one_of_them :
    (client : ℕ) (e : ℕ × Queue) (es : Table Queue) (ws : List Watch) → (e.1.client == client) ≡ true
    → filter (λ w. not (owns client w.0.1 es)) (filter (λ w. not (w.0.1 == e.0)) ws)
    ≡ filter (λ w. not (owns client w.0.1 (e ∷ es))) ws
one_of_them client e es [] own = refl
one_of_them client e es (w ∷ ws) own =
    let later = one_of_them client e es ws own in
    let others = filter (λ v. not (v.0.1 == e.0)) ws in
    let rest = filter (λ v. not (owns client v.0.1 (e ∷ es))) ws in
    let more = owns client w.0.1 es in
    let turn : (e.0 == w.0.1) ≡ (w.0.1 == e.0) = grind (arith, nat_tests) in
    elim (w.0.1 == e.0) as (λ b. (e.0 == w.0.1) ≡ b
    → filter (λ v. not (owns client v.0.1 es)) (cond (not b) (w ∷ others) others)
    ≡ cond (not (((e.0 == w.0.1) && (e.1.client == client)) || more)) (w ∷ rest) rest) [
      | true ↦ λ t.
          later
          ∙ sym (ap (λ b. cond (not ((b && (e.1.client == client)) || more)) (w ∷ rest) rest) t
          ∙ ap (λ b. cond (not (b || more)) (w ∷ rest) rest) own)
      | false ↦ λ t.
          ap (λ vs. cond (not more) (w ∷ vs) vs) later
          ∙ sym (ap (λ b. cond (not ((b && (e.1.client == client)) || more)) (w ∷ rest) rest) t)
    ] turn

-- where no queue is left, all stay
pub all_stay : (client : ℕ) (ws : List Watch) → filter (λ w. not (owns client w.0.1 [])) ws ≡ ws
all_stay client [] = refl
all_stay client (w ∷ ws) = ap (λ vs. w ∷ vs) (all_stay client ws)
