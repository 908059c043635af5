-- The bill of a manifest: the most changes that it can make; and the theorems that no resource and no evaluation exceeds its share of it, and that it is at most 320. Assumes nothing.
use Rattle.std.specs.Prelude.{ℕ, suc, ◌+◌, ◌≤◌, List, [], ◌∷◌, length}
use Rattle.fs.specs.Tree.{Tree, Sorted}
use Rattle.fs.specs.Manifest.{Entry, dir_entry, file_entry, Resource, Put, Directory, Absent, Package, Service, expr, Manifest, size, resource}
use Rattle.fs.specs.Order.{AtMostOnce}
use Rattle.fs.specs.Trace.{trace, trace_of}

-- 2 for a file entry, 1 for a directory entry, and 2 for `/pkg` and the marker, which was no file
abbrev pub entries_share : List Entry → ℕ
entries_share [] = 2
entries_share (dir_entry p ∷ l) = 1 + entries_share l
entries_share (file_entry p c ∷ l) = 2 + entries_share l

abbrev pub share : Resource → ℕ
share (Put p c) = 2
share (Directory p) = 1
share (Absent p) = 1
share (Package name l) = entries_share l
share (Service name) = 0

abbrev pub shares : List Resource → ℕ
shares [] = 0
shares (r ∷ l) = share r + shares l

abbrev pub bill : Manifest → ℕ
bill m = shares m.resources

-- no resource makes more changes than its share, whether it succeeds or fails
abbrev pub WithinShare : Type 0
WithinShare = (r : Resource) (t : Tree) → Sorted t → length (trace (expr r) t) ≤ share r

-- no evaluation, begun or whole, makes more changes than the bill, whether it succeeds or fails
abbrev pub WithinBill : Type 0
WithinBill = (m : Manifest) (o : List ℕ) (t : Tree) → Sorted t → AtMostOnce m o → length (trace_of m o t) ≤ bill m

abbrev pub packages : List Resource → ℕ
packages [] = 0
packages (Put p c ∷ l) = packages l
packages (Directory p ∷ l) = packages l
packages (Absent p ∷ l) = packages l
packages (Package name es ∷ l) = suc (packages l)
packages (Service name ∷ l) = packages l

abbrev pub entries : Resource → ℕ
entries (Put p c) = 0
entries (Directory p) = 0
entries (Absent p) = 0
entries (Package name l) = length l
entries (Service name) = 0

-- at most 32 resources, of which at most 8 are packages, each of at most 16 entries: 8 times 34, and 24 times 2
abbrev pub BillFits : Type 0
BillFits = (m : Manifest) → size m ≤ 32 → packages m.resources ≤ 8 → ((i : ℕ) → entries (resource m i) ≤ 16) → bill m ≤ 320
