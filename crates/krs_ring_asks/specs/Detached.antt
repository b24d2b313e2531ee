-- The holders of one key.
use Rattle.std.specs.Prelude.{◌++◌, ◌==◌, filter, List, ℕ}
use Rattle.krs_model.specs.Sweep.{context_roots, process_roots, uid_roots}
use Rattle.krs_ctx.specs.Anchors.{Anchors}

-- as often as the serial stands among these
abbrev pub those : ℕ → List ℕ → List ℕ
those serial ks = filter (λ k. k == serial) ks

-- as often as the key is attached
abbrev pub those_attached : Anchors → ℕ → List ℕ
those_attached t serial =
    those serial (context_roots t.contexts ++ (process_roots t.processes ++ uid_roots t.uids))
