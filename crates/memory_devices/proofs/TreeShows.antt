-- What a call of a tree in memory did, as it is known.
use Rattle.std.proofs.Common.{◌≡◌, ℕ, Bool, true, false, cond, ◌&&◌, ◌||◌, not, List, [], Result, Ok, Err, Option, Some, None, IsSome, refl, sym, ◌∙◌, ap, inl}
use Rattle.std.specs.Prelude.{OnOk, OnErr, IfOk, is_none, option_map}
use Rattle.base_devices.specs.declared.device_error.DeviceError.{DeviceError}
use Rattle.base_devices.specs.Content.{Name, at, SameBut}
use Rattle.base_devices.specs.DataFolder.{Held, file, folder, link, other, Nodes, with_node, file_bytes, longer, lengthened_file, ChangesFile, BeginsNew, RemovesSynced}
use Rattle.memory_devices.specs.declared.failing.Failing.{Failing}
use Rattle.memory_devices.specs.Counts.{is_to_fail, counted, was_faulty_call, faulted, tried, tried_on, FailsWhere}
use Rattle.memory_devices.specs.Nodes.{is_file, longer_node}

-- a proper call is no faulty call
pub tried_proper : (proper : Bool) (old new : Failing) → new ≡ tried proper old → proper ≡ true → new.faulty_calls ≡ old.faulty_calls
tried_proper true old new is yes' = ap (λ (f : Failing). f.faulty_calls) is ∙ both (is_to_fail old)
  where
    both : (b : Bool) → (cond (b || true) (counted old) (was_faulty_call (counted old))).faulty_calls ≡ old.faulty_calls
    both true = refl
    both false = refl
tried_proper false old new is yes' = cc

pub tried_on_proper : (proper takes : Bool) (old new : Failing) → new ≡ tried_on proper takes old → proper ≡ true → new.faulty_calls ≡ old.faulty_calls
tried_on_proper true takes old new is yes' = ap (λ (f : Failing). f.faulty_calls) is ∙ both (is_to_fail old || takes)
  where
    both : (b : Bool) → (cond b (counted old) (faulted (counted old))).faulty_calls ≡ old.faulty_calls
    both true = refl
    both false = refl
tried_on_proper false takes old new is yes' = cc

-- a call at `Ok` was proper
pub ok_proper : {T : Type 0} (to_fail proper : Bool) (result : Result T DeviceError) → FailsWhere (to_fail || not proper) result → OnOk result (proper ≡ true)
ok_proper a true (Ok x) fails = refl
ok_proper true false (Ok x) fails = cc (fails.always refl)
ok_proper false false (Ok x) fails = cc (fails.always refl)
ok_proper a proper (Err e) fails = tt

pub both_true : (a b : Bool) → (a && b) ≡ true → a ≡ true
both_true true b is = refl
both_true false b is = is

pub and_true : (a b : Bool) → a ≡ true → b ≡ true → (a && b) ≡ true
and_true true b left right = right
and_true false b left right = left

pub file_there : (o : Option Held) → is_file o ≡ true → IsSome (file_bytes o)
file_there None is = cc
file_there (Some (file bytes time)) is = refl
file_there (Some folder) is = cc
file_there (Some link) is = cc
file_there (Some other) is = cc

pub is_there : (o : Option Held) → IsSome (file_bytes o) → is_file o ≡ true
is_there None some = some
is_there (Some (file bytes time)) some = refl
is_there (Some folder) some = some
is_there (Some link) some = some
is_there (Some other) some = some

same_but : (path : Name) (f g : Nodes) → g ≡ f → SameBut path (Some f) (Some g)
same_but path f g is q apart = ap (λ (h : Nodes). at q (Some h)) is

-- a file that is begun with time 0
pub begun_file : {T E : Type 0} (result : Result T E) (path : Name) (f g : Nodes) → OnOk result (g ≡ with_node path (Some (file [] 0)) f) → OnErr result (g ≡ f)
    → ChangesFile result path (λ time. with_node path (Some (file [] time))) (Some f) (Some g)
begun_file (Ok x) path f g ok err = (0, ap (λ (h : Nodes). Some h) ok)
begun_file (Err e) path f g ok err = same_but path f g err

-- a file that is begun with time 0 where nothing is
nothing_there : (o : Option Held) → is_none o ≡ true → o ≡ None
nothing_there None is = refl
nothing_there (Some held) is = cc

something_there : (o : Option Held) → is_none o ≡ false → IsSome o
something_there None is = cc
something_there (Some held) is = refl

pub begun_new : {E : Type 0} (result : Result Bool E) (path : Name) (f g : Nodes) → IfOk result (λ made. made ≡ is_none (f path)) → IfOk result (λ made. g ≡ cond made (with_node path (Some (file [] 0)) f) f) → OnErr result (g ≡ f)
    → BeginsNew result path (Some f) (Some g)
begun_new (Ok true) path f g known ok err = (nothing_there (f path) (sym known), (0, ap (λ (h : Nodes). Some h) ok))
begun_new (Ok false) path f g known ok err = (something_there (f path) (sym known), ap (λ (h : Nodes). Some h) ok)
begun_new (Err e) path f g known ok err = same_but path f g err

-- a file that keeps its time
keeps_time : (more : List ℕ) (o : Option Held) → (time : ℕ) × (option_map (longer_node more) o ≡ longer more time o)
keeps_time more None = (0, refl)
keeps_time more (Some (file bytes time)) = (time, refl)
keeps_time more (Some folder) = (0, refl)
keeps_time more (Some link) = (0, refl)
keeps_time more (Some other) = (0, refl)

pub appended_file : {T E : Type 0} (result : Result T E) (path : Name) (more : List ℕ) (f g : Nodes) → OnOk result (g ≡ with_node path (option_map (longer_node more) (f path)) f) → OnErr result (g ≡ f)
    → ChangesFile result path (lengthened_file path more) (Some f) (Some g)
appended_file (Ok x) path more f g ok err = let k = keeps_time more (f path) in (k.0, ap (λ (h : Nodes). Some h) (ok ∙ ap (λ (o : Option Held). with_node path o f) k.1))
appended_file (Err e) path more f g ok err = same_but path f g err

-- a node that is removed and synced
pub removed_synced : {T E : Type 0} (result : Result T E) (path : Name) (f g : Nodes) → OnOk result (g ≡ with_node path None f) → OnErr result (g ≡ f) → RemovesSynced result path (Some f) (Some g)
removed_synced (Ok x) path f g ok err = ap (λ (h : Nodes). Some h) ok
removed_synced (Err e) path f g ok err = inl (ap (λ (h : Nodes). Some h) err)
