-- A key that goes out of one keyring after the other, and out of all attachments: what is left to be done.
use Rattle.std.proofs.Common.{[], ◌++◌, ◌+◌, ◌==◌, ◌∙◌, ◌∷◌, ◌≡◌, ap, arith, cond, Err, false, filter}
use Rattle.std.proofs.Common.{List, nat_cmp, None, not, Ok, Option, option_to_list, refl, Result, Some, sym, true, ℕ}
use Rattle.std.proofs.lemmas.List.Elements.{filter-append}
use Rattle.krs_types.specs.declared.{context.{Context.Context, UidRings.UidRings}, errno.Errno.Errno}
use Rattle.krs_model.specs.Asks.{Changing.changed, Invalidating.{context_without, detached, invalidated, rings_without}}
use Rattle.krs_model.specs.Asks.Linked.{unlinked_content, without_link}
use Rattle.krs_model.specs.{Possession.links_of_content, State.{Content, Key, Links, Payload, State}}
use Rattle.krs_model.specs.{Sweep.{context_roots, process_roots, roots, uid_roots}, Table.{alter, map_values, Table}}
use Rattle.krs_ctx.specs.{Anchors.Anchors, Told.anchors_without}
use Rattle.krs_hold.specs.Tally.{all_less, all_links, IsTallied, number_at, times}
use Rattle.krs_hold.proofs.Detached.{times-others, times-roots}
use Rattle.krs_hold.proofs.{Gathered.gathered, Tallies.{all_less-append, tallied_attached, tallied_let_go_all}}
use Rattle.krs_hold.proofs.Times.{times-append, times-cons}
use Rattle.krs_tables.specs.{Linked.Takes, View.{IsConsistent, state_of}, declared.tables.Tables.TheInside.Inside}
use Rattle.krs_ring_asks.specs.Detached.{those, those_attached}
use Rattle.std.proofs.lemmas.Grind.{common_steps}

-- what is left of a list without the key
abbrev others : ℕ → List ℕ → List ℕ
others serial ks = filter (λ k. not (k == serial)) ks

-- without the key twice is without it
others_twice : (serial : ℕ) (ks : List ℕ) → others serial (others serial ks) ≡ others serial ks
others_twice serial [] = refl
others_twice serial (k ∷ ks) = grind (arith, common_steps, others_twice serial ks)

content_twice :
    (serial : ℕ) (content : Content)
    → unlinked_content serial (unlinked_content serial content) ≡ unlinked_content serial content
content_twice serial (Payload bytes) = refl
content_twice serial (Links ks) = ap (λ (js : List ℕ). Links js) (others_twice serial ks)

link_twice : (serial : ℕ) (key : Key) → without_link serial (without_link serial key) ≡ without_link serial key
link_twice serial key = ap (λ (content : Content). record key { content = content }) (content_twice serial key.content)

detached_twice : (serial : ℕ) (o : Option ℕ) → detached serial (detached serial o) ≡ detached serial o
detached_twice serial None = refl
detached_twice serial (Some k) = grind (arith, common_steps)

context_twice :
    (serial : ℕ) (c : Context) → context_without serial (context_without serial c) ≡ context_without serial c
context_twice serial c = grind (arith, common_steps, detached_twice)

rings_twice :
    (serial : ℕ) (r : UidRings) → rings_without serial (rings_without serial r) ≡ rings_without serial r
rings_twice serial r = grind (arith, common_steps, detached_twice)

mapped_alter :
    {X : Type 0} (f : X → X) → ((v : X) → f (f v) ≡ f v) → (es : Table X) (k : ℕ)
    → map_values f (alter es k f) ≡ map_values f es
mapped_alter f twice [] k = refl
mapped_alter f twice (e ∷ es) k = grind (arith, common_steps, nat_cmp, mapped_alter f twice es k)

mapped_twice :
    {X : Type 0} (f : X → X) → ((v : X) → f (f v) ≡ f v) → (es : Table X)
    → map_values f (map_values f es) ≡ map_values f es
mapped_twice f twice [] = refl
mapped_twice f twice (e ∷ es) = grind (arith, common_steps, mapped_twice f twice es)

-- out of one keyring, the key is still to go out of all
pub unlinked_once :
    (s : State) (ring serial : ℕ)
    → invalidated (changed s ring (without_link serial)) serial ≡ invalidated s serial
unlinked_once s ring serial = grind (arith, common_steps, mapped_alter, link_twice)

pub takes_same :
    (old new : State) (done : Result (Unit {0}) Errno) (ring serial : ℕ) → Takes old done new ring serial
    → invalidated new serial ≡ invalidated old serial
takes_same old new (Ok done) ring serial h = grind (arith, common_steps, unlinked_once)
takes_same old new (Err e) ring serial h = ap (λ (s : State). invalidated s serial) h.1.1

-- without its attachments
abbrev pub unattached : State → ℕ → State
unattached s serial = record s {
  contexts = map_values (context_without serial) s.contexts;
  processes = map_values (detached serial) s.processes;
  uids = map_values (rings_without serial) s.uids;
}

-- out of all attachments, the key is still to go out of all keyrings
pub unattached_once : (s : State) (serial : ℕ) → invalidated (unattached s serial) serial ≡ invalidated s serial
unattached_once s serial = grind (arith, common_steps, mapped_twice, context_twice, detached_twice, rings_twice)

-- what nothing holds is out already
others_all : (serial : ℕ) (ks : List ℕ) → times serial ks ≡ 0 → others serial ks ≡ ks
others_all serial [] none = refl
others_all serial (k ∷ ks) none =
    elim (k == serial) as (λ b. times serial (k ∷ ks) ≡ cond b 1 0 + times serial ks
    → cond (not b) (k ∷ others serial ks) (others serial ks) ≡ k ∷ ks) [
      | true ↦ λ e. absurd (omega (arith, e, none))
      | false ↦ λ e. ap (λ js. k ∷ js) (others_all serial ks (omega (arith, e, none)))
    ] (times-cons serial k ks)

content_stays :
    (serial : ℕ) (content : Content) → times serial (links_of_content content) ≡ 0
    → unlinked_content serial content ≡ content
content_stays serial (Payload bytes) none = refl
content_stays serial (Links ks) none = ap (λ (js : List ℕ). Links js) (others_all serial ks none)

link_stays :
    (serial : ℕ) (key : Key) → times serial (links_of_content key.content) ≡ 0 → without_link serial key ≡ key
link_stays serial key none = grind (arith, common_steps, content_stays)

detached_stays : (serial : ℕ) (o : Option ℕ) → times serial (option_to_list o) ≡ 0 → detached serial o ≡ o
detached_stays serial None none = refl
detached_stays serial (Some k) none = grind (arith, common_steps, times-cons)

-- what two attachments have
abbrev two : Option ℕ → Option ℕ → List ℕ
two a b = option_to_list a ++ option_to_list b

context_stays :
    (serial : ℕ) (c : Context) → times serial (two c.thread c.session) ≡ 0 → context_without serial c ≡ c
context_stays serial c none = grind (arith, common_steps, times-append, option_to_list, detached_stays)

rings_stay :
    (serial : ℕ) (r : UidRings) → times serial (two r.user r.session) ≡ 0 → rings_without serial r ≡ r
rings_stay serial r none = grind (arith, common_steps, times-append, option_to_list, detached_stays)

mapped_stays :
    {X : Type 0} (g : X → List ℕ) (f : X → X) (serial : ℕ) (es : Table X)
    → ((v : X) → times serial (g v) ≡ 0 → f v ≡ v) → times serial (gathered g es) ≡ 0 → map_values f es ≡ es
mapped_stays g f serial [] each none = refl
mapped_stays g f serial (e ∷ es) each none =
    let both = times-append serial (g e.1) (gathered g es) in
    ap (λ v. (e.0, v) ∷ map_values f es) (each e.1 (omega (arith, both, none)))
    ∙ ap (λ zs. e ∷ zs) (mapped_stays g f serial es each (omega (arith, both, none)))

pub unheld_is_out :
    (s : State) (serial : ℕ) (numbers : Table ℕ) → IsTallied s.keys (roots s) [] numbers
    → number_at numbers serial ≡ 0 → invalidated s serial ≡ s
unheld_is_out s serial numbers h none =
    let all = h.exact serial in
    let later = process_roots s.processes ++ uid_roots s.uids in
    let first = times-append serial (context_roots s.contexts) later in
    let second = times-append serial (process_roots s.processes) (uid_roots s.uids) in
    let linked : times serial (all_links s.keys) ≡ 0 = omega (arith, all, none) in
    let attached : times serial (roots s) ≡ 0 = omega (arith, all, none) in
    let by_contexts : times serial (context_roots s.contexts) ≡ 0 = omega (arith, attached, first) in
    let by_later : times serial later ≡ 0 = omega (arith, attached, first) in
    let by_processes : times serial (process_roots s.processes) ≡ 0 = omega (arith, by_later, second) in
    let by_uids : times serial (uid_roots s.uids) ≡ 0 = omega (arith, by_later, second) in
    let t = invalidated s serial in
    ap (λ (es : Table Key). record t { keys = es })
    (mapped_stays (λ (key : Key). links_of_content key.content) (without_link serial) serial s.keys
    (link_stays serial) linked)
    ∙ (ap (λ (es : Table Context). record t { keys = s.keys; contexts = es })
    (mapped_stays (λ (c : Context). two c.thread c.session) (context_without serial) serial s.contexts
    (context_stays serial) by_contexts)
    ∙ (ap (λ (es : Table (Option ℕ)). record s { processes = es; uids = t.uids })
    (mapped_stays (λ (o : Option ℕ). option_to_list o) (detached serial) serial s.processes
    (detached_stays serial) by_processes)
    ∙ ap (λ (es : Table UidRings). record s { uids = es })
    (mapped_stays (λ (r : UidRings). two r.user r.session) (rings_without serial) serial s.uids
    (rings_stay serial) by_uids)))

-- attachments that let go of the key
times-split :
    (serial q : ℕ) (ks : List ℕ) → times q (those serial ks) + times q (others serial ks) ≡ times q ks
times-split serial q [] = omega arith
times-split serial q (k ∷ ks) = grind (arith, common_steps, times-cons, times-split serial q ks)

-- the numbers are exact without them
pub unattached_tallied :
    (s : State) (serial : ℕ) (numbers : Table ℕ) → IsTallied s.keys (roots s) [] numbers
    → IsTallied s.keys (roots (unattached s serial)) [] (all_less (those serial (roots s)) numbers)
unattached_tallied s serial numbers h =
    let new = roots (unattached s serial) in
    let gone = those serial (roots s) in
    tallied_let_go_all s.keys new gone [] numbers
    (tallied_attached s.keys (roots s) new [] (gone ++ []) numbers
    (λ q.
    let split = times-split serial q (roots s) in
    let stay : times q new ≡ times q (others serial (roots s)) =
    times-roots s serial q ∙ sym (times-others serial q (roots s)) in
    let all = times-append q gone [] in
    omega (arith, split, stay, all)) h)

-- of one list of attachments after the other
pub less_those :
    (serial : ℕ) (xs ys : List ℕ) (numbers : Table ℕ)
    → all_less (those serial ys) (all_less (those serial xs) numbers) ≡ all_less (those serial (xs ++ ys)) numbers
less_those serial xs ys numbers = grind (arith, common_steps, filter-append, all_less-append)

-- of three such lists
pub less_attached :
    (serial : ℕ) (cs ps us : List ℕ) (old first second new : Table ℕ)
    → first ≡ all_less (those serial cs) old
    → second ≡ all_less (those serial ps) first
    → new ≡ all_less (those serial us) second
    → new ≡ all_less (those serial (cs ++ (ps ++ us))) old
less_attached serial cs ps us old first second new one two three = grind (arith, common_steps, less_those)

-- the store with these parts is sound, and nothing attaches the key
pub record IsUnattached (s new : Inside) (serial : ℕ) : Type 0 where
  pub sound : IsConsistent new
  pub is : state_of new ≡ unattached (state_of s) serial

-- contexts let go of the key, and it is counted so
abbrev pub unattached_in : Inside → ℕ → Inside
unattached_in s serial = record s {
  contexts = anchors_without s.contexts serial;
  holders = all_less (those_attached s.contexts serial) s.holders;
}

unattached_sound : (s : Inside) (serial : ℕ) → IsConsistent s → IsUnattached s (unattached_in s serial) serial
unattached_sound s serial sound = record {
  sound = record {
    fit = sound.fit;
    kinds = sound.kinds;
    tallied = unattached_tallied (state_of s) serial s.holders sound.tallied;
  };
  is = refl;
}

pub unattached_told :
    (s : Inside) (serial : ℕ) (anchors : Anchors) (numbers : Table ℕ) → IsConsistent s
    → anchors ≡ anchors_without s.contexts serial
    → numbers ≡ all_less (those_attached s.contexts serial) s.holders
    → IsUnattached s (record s { contexts = anchors; holders = numbers }) serial
unattached_told s serial anchors numbers sound one two = rw (one, two) (unattached_sound s serial sound)
