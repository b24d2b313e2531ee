-- What the entries of contexts, processes and uids attach.
use Rattle.std.proofs.Common.{[], ⊎_elim, ◌++◌, ◌∷◌, ◌≡◌, ◌⊎◌, ap, arith, Bool, filter, flat_map, inl, List}
use Rattle.std.proofs.{Common.{option_to_list, Some, sym, true, true≢false, ℕ}, lemmas.Bool.Decides.nat_tests}
use Rattle.std.proofs.lemmas.{List.Concat.flat_map_single, Option.{none-some, same_Some}}
use Rattle.krs_types.specs.declared.context.{Context.Context, UidRings.UidRings}
use Rattle.krs_model.specs.{Levels.is_in, Sound.processes_of, State.State, Sweep.{context_roots, process_roots}}
use Rattle.krs_model.specs.{Sweep.{roots, uid_roots}, Table.{alter, at, IsDistinct, map_values, put, Table, without}}
use Rattle.krs_model.proofs.{Reach.Levels.{in_left, in_one, in_right}, Tables.Entries.{first_entry, IsEntry}}
use Rattle.krs_model.proofs.Tables.Entries.{later_entry}

-- the keys that a context, a uid, and the entries of a table attach
abbrev pub context_keys : Context → List ℕ
context_keys c = option_to_list c.thread ++ option_to_list c.session

abbrev pub uid_keys : UidRings → List ℕ
uid_keys rings = option_to_list rings.user ++ option_to_list rings.session

abbrev pub attachments : {X : Type 0} → (X → List ℕ) → Table X → List ℕ
attachments g es = flat_map (λ e. g e.1) es

-- the process of a context, as if it attached it
abbrev pub own_process : Context → List ℕ
own_process c = c.process ∷ []

pub in_processes :
    (es : Table Context) (process : ℕ)
    → is_in process (processes_of es) ≡ is_in process (attachments own_process es)
in_processes es process = ap (is_in process) (sym (flat_map_single (λ (e : ℕ × Context). e.1.process) es))

-- what a further entry attaches, or was attached
pub attached_either :
    {X : Type 0} (g : X → List ℕ) (es : Table X) (k : ℕ) (v : X) (q : ℕ)
    → is_in q (attachments g (put es k v)) ≡ true → (is_in q (g v) ≡ true) ⊎ (is_in q (attachments g es) ≡ true)
attached_either {X = X} g [] k v q h = in_one q (g v) [] h
attached_either {X = X} g (e ∷ es) k v q h =
    grind (arith, nat_tests, in_one, in_right, in_left, attached_either g es k v q)

-- what a changed entry attaches was attached, or is what the change attaches
pub attached_alter :
    {X P : Type 0} (g : X → List ℕ) (es : Table X) (k : ℕ) (f : X → X) (q : ℕ)
    → ((v : X) → is_in q (g (f v)) ≡ true → (is_in q (g v) ≡ true) ⊎ P)
    → is_in q (attachments g (alter es k f)) ≡ true → (is_in q (attachments g es) ≡ true) ⊎ P
attached_alter {X = X} {P = P} g [] k f q attaches h = inl h
attached_alter {X = X} {P = P} g (e ∷ es) k f q attaches h =
    grind (arith, nat_tests, in_left, in_right, in_one, attached_alter g es k f q attaches)

-- what fewer entries attach was attached
pub attached_fewer :
    {X : Type 0} (g : X → List ℕ) (p : ℕ × X → Bool) (es : Table X) (q : ℕ)
    → is_in q (attachments g (filter p es)) ≡ true → is_in q (attachments g es) ≡ true
attached_fewer {X = X} g p [] q h = h
attached_fewer {X = X} g p (e ∷ es) q h = grind (arith, nat_tests, in_left, in_right, in_one, attached_fewer g p es q)

-- what is left where one entry was taken out was attached
pub attached_without :
    {X : Type 0} (g : X → List ℕ) (es : Table X) (k q : ℕ) → is_in q (attachments g (without es k)) ≡ true
    → is_in q (attachments g es) ≡ true
attached_without {X = X} g [] k q h = h
attached_without {X = X} g (e ∷ es) k q h =
    grind (arith, nat_tests, in_right, in_left, in_one, attached_without g es k q)

-- what changed entries attach was attached
pub attached_mapped :
    {X : Type 0} (g : X → List ℕ) (f : X → X) (es : Table X) (q : ℕ)
    → ((v : X) → is_in q (g (f v)) ≡ true → is_in q (g v) ≡ true)
    → is_in q (attachments g (map_values f es)) ≡ true → is_in q (attachments g es) ≡ true
attached_mapped {X = X} g f [] q fewer h = h
attached_mapped {X = X} g f (e ∷ es) q fewer h =
    grind (arith, nat_tests, in_left, in_right, in_one, attached_mapped g f es q fewer)

-- what the value at a number attaches is attached
pub attached_at :
    {X : Type 0} (g : X → List ℕ) (es : Table X) (k : ℕ) (v : X) (q : ℕ) → at es k ≡ Some v → is_in q (g v) ≡ true
    → is_in q (attachments g es) ≡ true
attached_at {X = X} g [] k v q h i = absurd (none-some v h)
attached_at {X = X} g (e ∷ es) k v q h i =
    grind (arith, nat_tests, in_left, same_Some, in_right, attached_at g es k v q)

-- what is attached an entry attaches, where no number stands twice
pub attached_entry :
    {X : Type 0} (g : X → List ℕ) (es : Table X) (q : ℕ) → IsDistinct es → is_in q (attachments g es) ≡ true
    → IsEntry es (λ v. is_in q (g v) ≡ true)
attached_entry {X = X} g [] q distinct h = absurd (true≢false (sym h))
attached_entry {X = X} g (e ∷ es) q distinct h =
    ⊎_elim (λ here. first_entry (λ (v : X). is_in q (g v) ≡ true) e es here)
    (λ later. later_entry (λ (v : X). is_in q (g v) ≡ true) e es distinct (attached_entry g es q distinct.1 later))
    (in_one q (g e.1) (attachments g es) h)

-- an attachment is of a context, a process or a uid
pub attached_by :
    {P : Type 0} (a b c : List ℕ) (k : ℕ) → (is_in k a ≡ true → P) → (is_in k b ≡ true → P) → (is_in k c ≡ true → P)
    → is_in k (a ++ (b ++ c)) ≡ true → P
attached_by a b c k p q r h =
    ⊎_elim p (λ i. ⊎_elim q r (in_one k b c i)) (in_one k a (b ++ c) h)

pub in_context : (s : State) (k : ℕ) → is_in k (context_roots s.contexts) ≡ true → is_in k (roots s) ≡ true
in_context s k h = in_left k (context_roots s.contexts) (process_roots s.processes ++ uid_roots s.uids) h

pub in_process : (s : State) (k : ℕ) → is_in k (process_roots s.processes) ≡ true → is_in k (roots s) ≡ true
in_process s k h = search (in_right, in_left) depth 8

pub in_uid : (s : State) (k : ℕ) → is_in k (uid_roots s.uids) ≡ true → is_in k (roots s) ≡ true
in_uid s k h = search in_right depth 8
