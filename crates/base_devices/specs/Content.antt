-- What a disk holds: a value for each name, bytes or nothing.
use Rattle.std.specs.Prelude.{true, ◌≡◌, ◌≢◌, ◌⊎◌, ◌≤◌, ◌-◌, ℕ, Bool, List, [], ◌∷◌, ◌++◌, length, take, drop, map, Option, Result, Some, None, option_map, IfSome, IsSome, IsSomeAnd, MatchResult, IsTrue, bytes_eq, if◌then◌else◌, nat_eq, Contains}
use Rattle.std.specs.List.{starts_with}
use Rattle.base_devices.specs.Order.{are_in_order}

-- a name below a disk's root, by its bytes: its folders and its own name, with a slash between
abbrev pub Name : Type 0
Name = List ℕ

-- bytes, or nothing
abbrev pub Value : Type 0
Value = Option (List ℕ)

abbrev pub Content : Type 0
Content = Name → Value

-- the function with another value at a name
abbrev pub set_at : {X : Type 0} → Name → X → (Name → X) → Name → X
set_at name x f q = if bytes_eq name q then x else f q

-- the content with this value at a name
abbrev pub put : Name → Value → Content → Content
put = set_at

-- with these bytes at the end of a name that is there
abbrev pub lengthened : Name → List ℕ → Content → Content
lengthened name bytes f = put name (option_map (λ (old : List ℕ). old ++ bytes) (f name)) f

-- with the value of one name at another
abbrev pub moved : Name → Name → Content → Content
moved from to f = put to (f from) (put from None f)

-- the name lies at some depth below the folder
abbrev pub is_below : Name → Name → Bool
is_below folder name = starts_with nat_eq name (folder ++ 47 ∷ [])

-- the same as a statement
abbrev pub IsBelow : Name → Name → Type 0
IsBelow folder name = IsTrue (is_below folder name)

-- the name lies in the folder, and in none within it
abbrev pub LiesDirectlyIn : Name → Name → Type 0
LiesDirectlyIn folder name = (last : Name) × (name ≡ folder ++ 47 ∷ last) × ¬ Contains last 47

-- the content is known, and has bytes at the name
abbrev pub HasBytes : Option Content → Name → Type 0
HasBytes content name = IsSomeAnd content (λ f. IsSome (f name))

-- the content, where it is known, has this value at the name
abbrev pub Holds : Option Content → Name → Value → Type 0
Holds content name value = IsSomeAnd content (λ f. value ≡ f name)

-- the content has bytes at the name, where it is known
abbrev pub IsThere : Option Content → Name → Type 0
IsThere content name = IfSome content (λ f. IsSome (f name))

-- At `Ok` the content is after the change. At an `Err` it is after it or as before.
abbrev pub Changes : {T E : Type 0} → Result T E → (Content → Content) → Option Content → Option Content → Type 0
Changes result change old new = MatchResult result (λ _. new ≡ option_map change old)
    (λ _. (new ≡ old) ⊎ (new ≡ option_map change old))

-- a failed append may have added a part of its bytes
abbrev pub Appends : {T E : Type 0} → Result T E → Name → List ℕ → Option Content → Option Content → Type 0
Appends result name bytes old new = MatchResult result (λ _. new ≡ option_map (lengthened name bytes) old)
    (λ _. (new ≡ old) ⊎ ((k : ℕ) × (new ≡ option_map (lengthened name (take k bytes)) old)))

-- what is at a name, where that is known
abbrev pub at : {X : Type 0} → Name → Option (Name → X) → Option X
at {X} q = option_map (λ (f : Name → X). f q)

-- the two are known alike, and have the same at each other name
abbrev pub SameBut : {X : Type 0} → Name → Option (Name → X) → Option (Name → X) → Type 0
SameBut name old new = (q : Name) → q ≢ name → at q new ≡ at q old

-- every name below the folder once, with the length of its bytes, in byte order
pub record IsListing (folder : Name) (f : Content) (found : List (Name × ℕ)) : Type 0 where
  pub each : (name : Name) (size : ℕ) → Contains found (name, size)
      → IsTrue (is_below folder name) × ((bytes : List ℕ) × (f name ≡ Some bytes) × (length bytes ≡ size))
  pub all : (name bytes : List ℕ) → IsTrue (is_below folder name) → f name ≡ Some bytes
      → Contains found (name, length bytes)
  pub order : are_in_order (map (λ x. x.0) found) ≡ true

-- the name of a folder within another: it isn't empty and has no slash
abbrev pub IsFolderName : Name → Type 0
IsFolderName x = (x ≢ []) × ¬ Contains x 47

-- names of folders directly in the folder, among them each that a name with bytes leads through
pub record AreFolders (folder : Name) (f : Content) (known : List Name) : Type 0 where
  pub each : (x : Name) → Contains known x → IsFolderName x
  pub all : (x rest : Name) → IsFolderName x → IsSome (f (folder ++ 47 ∷ x ++ 47 ∷ rest)) → Contains known x

-- the first n bytes of new are those of bytes from a place on; there are none only at the end, or into no room
pub record ReadsPart (bytes : List ℕ) (at room : ℕ) (new : List ℕ) (n : ℕ) : Type 0 where
  pub part : take n new ≡ take n (drop at bytes)
  pub within : n ≤ length bytes - at
  pub ends : n ≡ 0 → (room ≡ 0) ⊎ (length bytes ≤ at)

-- what a read at a place gives: none where the name is absent
abbrev pub Reads : Value → ℕ → ℕ → List ℕ → Option ℕ → Type 0
Reads None at room new answer = answer ≡ None
Reads (Some bytes) at room new answer = IsSomeAnd answer (λ n. ReadsPart bytes at room new n)

-- what a read of the name into a buffer gives, where the content is known
abbrev pub ReadsFrom : Option Content → Name → ℕ → List ℕ → List ℕ → Option ℕ → Type 0
ReadsFrom content name at old_buf new_buf answer = IfSome content
    (λ f. Reads (f name) at (length old_buf) new_buf answer)
