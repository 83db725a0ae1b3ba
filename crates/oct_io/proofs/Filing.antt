-- What a save leaves under each name.
use Rattle.std.proofs.Common.{◌≡◌, ◌<◌, ℕ, List, Option, Some, Result, Ok, Err, String}
use Rattle.std.proofs.Common.{BTreeMap, string_bytes, true, false, cond, subst, sym, refl, rules}
use Rattle.std.proofs.Math.Path.{fun_ext}
use Rattle.std.proofs.lemmas.Map.Text.{btree_map_updates_text}
use Rattle.std.specs.BTreeMap.{get_by_text}
use Rattle.std.specs.BTreeMap as tree
use Rattle.std.specs.Prelude.{IfSome, OnOk, OnErr}
use Rattle.std.specs.List.{All}
use Rattle.std.specs.Str.{bytes_eq}
use Rattle.std.specs.String.{string_cmp}
use Rattle.oct_io.specs.Files.{Files, AreBytes, with_file}

-- an insert in a map from names to bytes sets the bytes of one name
pub files_insert : {Y : Type 0} (m n : BTreeMap (String Y) (List ℕ)) (key : String Y)
    (name bytes : List ℕ) → string_bytes key ≡ name → tree.Updates string_cmp m n key (Some bytes)
    → (λ q. get_by_text n q) ≡ with_file (λ q. get_by_text m q) name bytes
files_insert m n key name bytes same sets =
    rw (← same) (fun_ext (btree_map_updates_text (string_bytes key) m n (Some bytes) sets))

-- files of bytes stay so with one file more
more_bytes : (files : Files) (name bytes : List ℕ) → AreBytes files
    → All (λ byte. byte < 256) bytes → AreBytes (with_file files name bytes)
more_bytes files name bytes before small = λ other.
    elim (bytes_eq name other) as
    (λ b. IfSome (cond {A = Option (List ℕ)} b (Some bytes) (files other))
    (All (λ byte. byte < 256)))
    [ true ↦ small | false ↦ before other ]

-- whether or not there was memory for the insert, bytes under each name stay so
pub bytes_insert : {R Y : Type 0} {E : Type 0} (r : Result R E)
    (m n : BTreeMap (String Y) (List ℕ)) (key : String Y) (bytes : List ℕ)
    → OnOk r (tree.Updates string_cmp m n key (Some bytes)) → OnErr r (tree.IsUnchanged m n)
    → AreBytes (λ q. get_by_text m q) → All (λ byte. byte < 256) bytes
    → AreBytes (λ q. get_by_text n q)
bytes_insert (Ok old) m n key bytes sets same before small =
    subst AreBytes (sym (files_insert m n key (string_bytes key) bytes refl sets))
    (more_bytes (λ q. get_by_text m q) (string_bytes key) bytes before small)
bytes_insert (Err e) m n key bytes sets same before small = λ name.
    let is : get_by_text n name ≡ get_by_text m name = search (rules, same) in
    subst (λ (o : Option (List ℕ)). IfSome o (All (λ byte. byte < 256))) (sym is) (before name)
