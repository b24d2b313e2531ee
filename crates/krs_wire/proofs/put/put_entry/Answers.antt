use Rattle.std.proofs.Common.{◌++◌, ◌∙◌, ◌≡◌, ap, append_assoc, flat_map, List, OnOk, rules, w32, ℕ}
use Rattle.std.specs.Int.{to_le_bytes}
use Rattle.krs_wire.proofs.PutLemmas.{then_put}
use Rattle.krs_wire.proofs.put.put_entry.Goals as goal

pub returns-clause-ok : goal.returns-clause-ok
returns-clause-ok c =
    let out = c.args.out.now.items in
    let note_type = to_le_bytes w32 c.args.line.now.note_type in
    let info_filter = to_le_bytes w32 c.args.line.now.info_filter in
    let info_mask = to_le_bytes w32 c.args.line.now.info_mask in
    let words = flat_map (λ n. to_le_bytes w32 n) c.args.line.now.subtypes in
    let first : c.put_u32.new.out.items ≡ out ++ note_type = search rules in
    let second : c.put_u32-2.new.out.items ≡ c.put_u32.new.out.items ++ info_filter = search rules in
    let third : c.put_u32-3.new.out.items ≡ c.put_u32-2.new.out.items ++ info_mask = search rules in
    let fourth : OnOk c.put_numbers.result (c.put_numbers.new.out.items ≡ c.put_u32-3.new.out.items ++ words) =
    search rules in
    let two : c.put_u32-2.new.out.items ≡ out ++ (note_type ++ info_filter) =
    second ∙ ap (λ (bytes : List ℕ). bytes ++ info_filter) first ∙ append_assoc out note_type info_filter in
    let three : c.put_u32-3.new.out.items ≡ out ++ ((note_type ++ info_filter) ++ info_mask) =
    third ∙ ap (λ (bytes : List ℕ). bytes ++ info_mask) two ∙ append_assoc out (note_type ++ info_filter) info_mask in
    then_put c.put_numbers.result out ((note_type ++ info_filter) ++ info_mask) words c.put_u32-3.new.out.items
    c.put_numbers.new.out.items three fourth
