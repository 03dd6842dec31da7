-- A file of the log that was opened, and what a command to push it says of it.
use Rattle.std.proofs.Common.{◌≡◌, ◌<◌, ℕ, length, take, min, max, Option, Some, None, refl, ap, ◌∙◌, sym, subst, arith}
use Rattle.std.specs.Prelude.{IfSome, IsSome, IsSomeAnd, Vec, option_map}
use Rattle.std.specs.declared.alloc.Global.{Global}
use Rattle.std.proofs.lemmas.List.{length-take, take_min}
use Rattle.base_devices.specs.Content.{Name}
use Rattle.base_devices.specs.DataFolder.{Nodes, file_bytes, known_path}
use Rattle.base_model.specs.declared.wal.ArchiveName.{ArchiveName}
use Rattle.base_model.specs.Text.{Text}
use Rattle.base_model.specs.Names.{wal_text}
use Rattle.repo_names.specs.Header.{BeginsWith}
use Rattle.cmd_archive_push.specs.declared.log_file.LogFile.{LogFile}
use Rattle.cmd_archive_push.specs.LogFile.{known_file, IsOpened}
use Rattle.cmd_archive_push.specs.WalPath.{IsWalPath, HasWal, wal_path}

-- the file is there
abbrev pub IsThere : Option Nodes → Name → Type 0
IsThere nodes path = IfSome nodes (λ f. IsSome (file_bytes (f path)))

some_of : (v : Option Text) → IsSome v → (bytes : Text) × (v ≡ Some bytes)
some_of None some = cc
some_of (Some bytes) some = (bytes, refl)

-- ---- its first bytes

-- so the prefix was read
abbrev pub IsPrefix : Option Nodes → Name → Text → Type 0
IsPrefix nodes path prefix = IfSome nodes (λ f. Some prefix ≡ option_map (take 65536) (file_bytes (f path)))

pub as_prefix : (nodes : Option Nodes) (path : Name) (r : Option (Vec ℕ Global)) (v : Vec ℕ Global) → r ≡ Some v
    → IfSome nodes (λ f. option_map (λ (x : Vec ℕ Global). x.items) r ≡ option_map (take 65536) (file_bytes (f path)))
    → IsPrefix nodes path v.items
as_prefix nodes path r v is h = subst
    (λ (o : Option (Vec ℕ Global)). IfSome nodes
    (λ f. option_map (λ (x : Vec ℕ Global). x.items) o ≡ option_map (take 65536) (file_bytes (f path)))) is h

prefix_of : (o : Option Text) (prefix : Text) → Some prefix ≡ option_map (take 65536) o → (bytes : Text) × (o ≡ Some bytes)
    × (prefix ≡ take 65536 bytes)
prefix_of None prefix e = cc
prefix_of (Some bytes) prefix e = (bytes, refl, cc)

begins_of : (prefix bytes : Text) (n : ℕ) → prefix ≡ take 65536 bytes → length bytes ≡ n → BeginsWith prefix n bytes
begins_of prefix bytes n is whole = record {
  prefix = ap (λ (k : ℕ). take k bytes) (ap length is ∙ length-take 65536 bytes) ∙ take_min 65536 bytes ∙ sym is;
  whole = whole;
}

longest : (bytes : Text) (n : ℕ) {k : ℕ} → Some n ≡ Some (length bytes) → k ≡ min 65536 (length bytes)
    → length bytes ≡ max n k
longest bytes n is long = let same : n ≡ length bytes = cc in omega (arith, same, long)

module _ (path : Name) (prefix : Text) where
  pub prefix_length : (nodes mid : Option Nodes) (len : ℕ) → mid ≡ nodes → len ≡ length prefix → IsPrefix nodes path prefix
      → IfSome (known_file mid path) (λ b. len ≡ min 65536 (length b))
  prefix_length nodes mid len same long is =
      subst (λ (o : Option Nodes). IfSome (known_file o path) (λ b. len ≡ min 65536 (length b))) (sym same) (go nodes is)
    where
      go : (o : Option Nodes) → IsPrefix o path prefix → IfSome (known_file o path) (λ b. len ≡ min 65536 (length b))
      go None h = tt
      go (Some f) h = let x = prefix_of (file_bytes (f path)) prefix h in
          subst (λ (v : Option Text). IfSome v (λ b. len ≡ min 65536 (length b))) (sym x.1)
          (long ∙ ap length x.2 ∙ length-take 65536 x.0)

  -- a prefix that isn't full is the whole file
  pub short_prefix : (nodes : Option Nodes) (n : ℕ) → n ≡ length prefix → n < 65536 → IsPrefix nodes path prefix
      → IfSome (known_file nodes path) (λ b. length b ≡ n)
  short_prefix None n is short prefix_is = tt
  short_prefix (Some f) n is short prefix_is = let x = prefix_of (file_bytes (f path)) prefix prefix_is in
      let long : length prefix ≡ min 65536 (length x.0) = ap length x.2 ∙ length-take 65536 x.0 in
      subst (λ (v : Option Text). IfSome v (λ b. length b ≡ n)) (sym x.1) (omega (arith, is, long, short))

  -- a file of a known size has no fewer bytes than were read
  pub sized_prefix : (nodes mid : Option Nodes) (size n k : ℕ) → mid ≡ nodes → n ≡ length prefix → k ≡ max size n
      → IsPrefix nodes path prefix → IfSome mid (λ f. Some size ≡ option_map length (file_bytes (f path)))
      → IfSome (known_file nodes path) (λ b. length b ≡ k)
  sized_prefix nodes mid size n k same is most prefix_is known =
      go nodes prefix_is (subst (λ (o : Option Nodes). IfSome o
      (λ f. Some size ≡ option_map length (file_bytes (f path)))) same known)
    where
      go : (o : Option Nodes) → IsPrefix o path prefix
          → IfSome o (λ f. Some size ≡ option_map length (file_bytes (f path)))
          → IfSome (known_file o path) (λ b. length b ≡ k)
      go None h known_here = tt
      go (Some f) h known_here = let x = prefix_of (file_bytes (f path)) prefix h in
          let known_file_size : Some size ≡ Some (length x.0) = known_here
          ∙ ap (λ (v : Option Text). option_map length v) x.1 in
          let long : n ≡ min 65536 (length x.0) = is ∙ ap length x.2 ∙ length-take 65536 x.0 in
          subst (λ (v : Option Text). IfSome v (λ b. length b ≡ k)) (sym x.1)
          (longest x.0 size known_file_size long ∙ sym most)

  pub prefix_there : (nodes : Option Nodes) → IsPrefix nodes path prefix → IfSome nodes (λ f. IsSome (file_bytes (f path)))
  prefix_there None is = tt
  prefix_there (Some f) is = let x = prefix_of (file_bytes (f path)) prefix is in
      subst (λ (v : Option Text). IsSome v) (sym x.1) refl

  pub prefix_begins : (nodes mid : Option Nodes) (n : ℕ) → mid ≡ nodes → IsPrefix nodes path prefix
      → IfSome (known_file mid path) (λ b. length b ≡ n) → IfSome (known_file nodes path) (BeginsWith prefix n)
  prefix_begins nodes mid n same is long =
      go nodes is (subst (λ (o : Option Nodes). IfSome (known_file o path) (λ b. length b ≡ n)) same long)
    where
      go : (o : Option Nodes) → IsPrefix o path prefix → IfSome (known_file o path) (λ b. length b ≡ n)
          → IfSome (known_file o path) (BeginsWith prefix n)
      go None h k = tt
      go (Some f) h k = let x = prefix_of (file_bytes (f path)) prefix h in
          subst (λ (v : Option Text). IfSome v (BeginsWith prefix n)) (sym x.1)
          (begins_of prefix x.0 n x.2 (subst (λ (v : Option Text). IfSome v (λ b. length b ≡ n)) x.1 k))

-- ---- a file that was opened

module _ (nodes : Option Nodes) (log : LogFile) where
  pub opened_there : (path : Name) → IsOpened nodes path log → IsThere nodes (known_path log.what)
  opened_there path opened = subst (λ (p : Name). IsThere nodes p) (sym opened.lies) opened.there

  pub opened_read : (path : Name) (first : Text) (count : ℕ) → first ≡ log.prefix.items → count ≡ log.length
      → IsOpened nodes path log → IfSome (known_file nodes (known_path log.what)) (BeginsWith first count)
  opened_read path first count prefix whole opened =
      let there = subst (λ (p : Name). IfSome (known_file nodes p) (BeginsWith log.prefix.items log.length))
      (sym opened.lies) opened.begins in
      subst (λ (t : Text). IfSome (known_file nodes (known_path log.what)) (BeginsWith t count)) (sym prefix)
      (subst (λ (n : ℕ). IfSome (known_file nodes (known_path log.what)) (BeginsWith log.prefix.items n))
      (sym whole) there)

-- ---- all of it

module _ (folder path : Text) (wal : ArchiveName) (named : IsWalPath folder path wal) (place : Name)
    (lies : place ≡ wal_path (wal_text wal)) where
  has_of : (f : Nodes) (bytes : Text) → file_bytes (f place) ≡ Some bytes → HasWal f folder path wal bytes
  has_of f bytes is = record { named = named; is = subst (λ (p : Name). file_bytes (f p) ≡ Some bytes) lies is }

  -- the bytes that the data folder has, as far as they are known
  pub known_bytes : (P : Nodes → Type 0) (nodes : Option Nodes) → IsThere nodes place → IsSomeAnd nodes P
      → (bytes : Text) × (known_file nodes place ≡ Some bytes) × IfSome nodes (λ f. HasWal f folder path wal bytes)
  known_bytes P None there some = absurd some
  known_bytes P (Some f) there some = let b = some_of (file_bytes (f place)) there in (b.0, b.1, has_of f b.0 b.1)

  -- the bytes that were read
  pub read_bytes : (nodes : Option Nodes) → IsThere nodes place → (bytes : Text)
      → IfSome (known_file nodes place) (λ b. b ≡ bytes) → IfSome nodes (λ f. HasWal f folder path wal bytes)
  read_bytes None there bytes is = tt
  read_bytes (Some f) there bytes is =
      let b = some_of (file_bytes (f place)) there in
      let e : b.0 ≡ bytes = subst (λ (v : Option Text). IfSome v (λ t. t ≡ bytes)) b.1 is in
      has_of f bytes (b.1 ∙ ap Some e)
