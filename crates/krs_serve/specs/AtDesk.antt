-- The desk of a daemon, of which each of its calls picks its own. The form is this project's own.
use Rattle.std.specs.Prelude.{[], ◌≡◌, ℕ}
use Rattle.atomic_table.specs.Seated.{TableId}

-- some desk, which a daemon that picks its own doesn't have
abbrev pub any_desk : TableId
any_desk = record { words = 0; slots = 0; views_name = 0; atom = 0; block = 0; offset = 0; slot_names = [] }

-- nothing was accepted yet, and who comes sits at this desk
abbrev pub BeginsAt : {A : Type 0} → (serves : A → TableId → Type 0) → (accepted failures : A → ℕ) → A → TableId
    → Type 0
BeginsAt serves accepted failures a desk = serves a desk × (accepted a ≡ 0) × (failures a ≡ 0)
