-- The tree by which the code finds the place of a name among locals.
use Rattle.std.specs.Prelude.{◌≡◌, ℕ, zero, suc, ◌+◌, ◌*◌, ◌/◌, ◌%◌, ◌^◌, Bool, false, ◌&&◌, if◌then◌else◌, nat_eq, bytes_eq, List, [], ◌∷◌, length, slice_get, slice_index, Option, Some, None}
use Rattle.std.specs.Option.{option_or}
use Rattle.script_scopes.specs.declared.places.NamePlaces.{NamePlaces}
use Rattle.script_scopes.specs.Names.{Scope}
use Rattle.script_scopes.specs.Places.{place_in, name_place}
use Rattle.script_values.specs.declared.locals.Local.{Local}
use Rattle.script_values.specs.declared.nodes.NameNode.{NameNode}
use Rattle.script_values.specs.declared.nodes.End.{End}
use Rattle.script_values.specs.declared.nodes.End.TheVariants.{At, Free, Nowhere}
use Rattle.script_values.specs.LocalNames.{names_of}

-- the digest of the bytes so far, with one more
abbrev pub stirred_product : ℕ → ℕ → ℕ
stirred_product sum byte = (((sum + byte) % 2 ^ 64) * 11400714819323198485) % 2 ^ 64

-- that product, with its upper half added to it
abbrev pub stirred : ℕ → ℕ → ℕ
stirred sum byte = (stirred_product sum byte + stirred_product sum byte / 4294967296) % 2 ^ 64

-- the digest of a name
abbrev pub digest_from : ℕ → List ℕ → ℕ
digest_from sum [] = sum
digest_from sum (byte ∷ rest) = digest_from (stirred sum byte) rest

-- the digest of a whole name
abbrev pub name_digest : List ℕ → ℕ
name_digest name = digest_from 0 name

-- a node without kids
abbrev pub node_of : ℕ → Bool → NameNode
node_of digest linked = record { digest = digest; kids = 0 ∷ 0 ∷ 0 ∷ 0 ∷ []; linked = linked }

-- whether a name is this one
abbrev pub has_name : Option (List ℕ) → List ℕ → Bool
has_name None name = false
has_name (Some other) name = bytes_eq other name

-- whether a node with this local stands for a name
abbrev pub stands_for : Option NameNode → Option (List ℕ) → List ℕ → ℕ → Bool
stands_for None local name digest = false
stands_for (Some node) local name digest = node.linked && (nat_eq node.digest digest && has_name local name)

-- the node at a place stands for a name
abbrev pub named_at : List NameNode → Scope → List ℕ → ℕ → ℕ → Bool
named_at nodes names name digest i = stands_for (slice_get nodes i) (slice_get names i) name digest

-- the kid of a node, 0 where it has none on the way of these digits
abbrev pub kid_of : Option NameNode → ℕ → ℕ
kid_of None rest = 0
kid_of (Some node) rest = slice_index node.kids (rest % 4)

-- the kid of the node at a place, 0 where it has none on the way of these digits
abbrev pub kid_at : List NameNode → ℕ → ℕ → ℕ
kid_at nodes i rest = kid_of (slice_get nodes i) rest

-- the way of a name ends at a node that has no kid there, if it is a node
abbrev pub free_at : Option NameNode → ℕ → ℕ → End
free_at None i rest = Nowhere
free_at (Some node) i rest = Free i (rest % 4)

-- the last node to which a way may lead
abbrev pub last_end : (ℕ → Bool) → ℕ → End
last_end named i = if named i then At i else Nowhere

-- where the way of these digits ends, from this node on and so many nodes behind it
unfoldable pub end_from : (ℕ → Bool) → (ℕ → Option NameNode) → ℕ → ℕ → ℕ → End
end_from named at zero rest i = last_end named i
end_from named at (suc left) rest i =
    if named i then At i else (if nat_eq (kid_of (at i) rest) 0 then free_at (at i) i rest else end_from named at left (rest / 4) (kid_of (at i) rest))

-- where the way of a name ends
abbrev pub way_end : List NameNode → Scope → List ℕ → ℕ → End
way_end nodes names name digest = end_from (named_at nodes names name digest) (slice_get nodes) 31 digest 0

-- the place at the end of a way
abbrev pub place_end : End → Option ℕ
place_end (At i) = Some i
place_end (Free i way) = None
place_end Nowhere = None

-- the place that the code has for a name: that of its node, or one in the map
abbrev pub place_found : List NameNode → Scope → NamePlaces → List ℕ → Option ℕ
place_found nodes names others name = option_or (place_end (way_end nodes names name (name_digest name))) (place_in others name)

-- the code has a node for each local, and the first place of each of the names
pub record HasNodes (nodes : List NameNode) (locals : List Local) (others : NamePlaces) : Type 0 where
  pub even : length nodes ≡ length locals
  pub places : (name : List ℕ) → place_found nodes (names_of locals) others name ≡ name_place name (names_of locals)

-- a node has gained a kid
pub record GainsKid (old new : List NameNode) (at way kid : ℕ) : Type 0 where
  pub kept : (i : ℕ) → nat_eq i at ≡ false → slice_get new i ≡ slice_get old i
  pub named : (local : Option (List ℕ)) (name : List ℕ) (digest : ℕ) → stands_for (slice_get new at) local name digest ≡ stands_for (slice_get old at) local name digest
  pub kids : (rest : ℕ) → kid_at new at rest ≡ (if nat_eq (rest % 4) way then kid else kid_at old at rest)
  pub more : length new ≡ length old
