-- Pending requests by id, and their links.
use Rattle.std.specs.Prelude.{List, None, Option, Some, [], false, if◌then◌else◌, length, slice_index, suc, true, zero, ℕ, ◌-◌, ◌<◌, ◌==◌, ◌≤◌, ◌≡◌, ◌≢◌, ◌∷◌}
use Rattle.std.specs.List.{slice_get}
use Rattle.slab.specs.Slab.{Slab, get, slab_len}
use Rattle.request_queue.specs.Chains.{Chain}
use Rattle.request_queue.specs.declared.requests.Request.{Request}
use Rattle.request_queue.specs.declared.requests.RequestRow.{RequestRow}
use Rattle.request_queue.specs.declared.requests.RequestRow.TheVariants.{Gone, InWork, Waiting}
use Rattle.request_queue.specs.declared.nodes.Link.{Link}
use Rattle.request_queue.specs.declared.nodes.Node.{Node}
use Rattle.request_queue.specs.Requests.{Found, Nowhere, Replied, StillPending, gone_count, is_due, pending_count}
use Rattle.request_queue.specs.declared.links.Relink.{Relink}
use Rattle.pad_words.specs.Numbers.{same_session}
use Rattle.pad_words.specs.declared.numbers.Session.{Session}
use Rattle.request_queue.specs.declared.nodes.Place.{Place}
use Rattle.request_queue.specs.declared.nodes.Place.TheVariants.{Linked, Ended}

-- the links of a node in a chain: 0 is the whole queue
abbrev pub link_of : {C : Type 0} → ℕ → Node C → Link
link_of zero n = n.all
link_of (suc c) n = n.own

-- a node with another link to what follows it in a chain, or to what comes before it
abbrev pub with_next : {C : Type 0} → ℕ → ℕ → Node C → Node C
with_next zero v n = record n { all = record n.all { next = v } }
with_next (suc c) v n = record n { own = record n.own { next = v } }

abbrev pub with_prev : {C : Type 0} → ℕ → ℕ → Node C → Node C
with_prev zero v n = record n { all = record n.all { prev = v } }
with_prev (suc c) v n = record n { own = record n.own { prev = v } }

-- the key at a place
abbrev pub key_in : {R : Type 0} → Option (Place R) → Option ℕ
key_in None = None
key_in (Some (Linked key)) = Some key
key_in (Some (Ended id session reply)) = None

-- the key of the pending request with this id
abbrev pub key_at : {R : Type 0} → List (Place R) → ℕ → Option ℕ
key_at places zero = None
key_at places (suc i) = key_in (slice_get places i)

-- the node of a key, where there is one
abbrev pub got : {C : Type 0} → Slab (Node C) → Option ℕ → Option (Node C)
got nodes None = None
got nodes (Some key) = get nodes key

-- the node of the pending request with this id
abbrev pub node_at : {C R : Type 0} → Slab (Node C) → List (Place R) → ℕ → Option (Node C)
node_at nodes places id = got nodes (key_at places id)

-- each key finds the node of that place's request
pub record Tied {C R : Type 0} (nodes : Slab (Node C)) (places : List (Place R)) : Type 0 where
  pub at : (id key : ℕ) → key_at places id ≡ Some key → (n : Node C) × (get nodes key ≡ Some n) × (n.request.id ≡ id)

-- what follows a node in a chain, and what comes before it; 0 where there is no node
abbrev pub next_in : {C : Type 0} → ℕ → Option (Node C) → ℕ
next_in c None = 0
next_in c (Some n) = (link_of c n).next

abbrev pub prev_in : {C : Type 0} → ℕ → Option (Node C) → ℕ
prev_in c None = 0
prev_in c (Some n) = (link_of c n).prev

-- what follows this id in the chain, and what comes before it; at 0 the first and the last
abbrev pub next_at : {C : Type 0} → (ℕ → Option (Node C)) → List ℕ → ℕ → ℕ → ℕ
next_at m heads c zero = slice_index heads c
next_at m heads c (suc j) = next_in c (m (suc j))

abbrev pub prev_at : {C : Type 0} → (ℕ → Option (Node C)) → List ℕ → ℕ → ℕ → ℕ
prev_at m tails c zero = slice_index tails c
prev_at m tails c (suc j) = prev_in c (m (suc j))

-- the request with this id is pending and in the chain: all are in chain 0, and those of session c in chain c
pub record In {C : Type 0} (m : ℕ → Option (Node C)) (c k : ℕ) : Type 0 where
  pub node : Node C
  pub found : m k ≡ Some node
  pub chain : 0 < c → node.request.session.number ≡ c

-- the request of a node
abbrev pub request_in : {C : Type 0} → Option (Node C) → Option (Request C)
request_in None = None
request_in (Some n) = Some n.request

-- one link to what follows was set, and nothing else that counts
pub record NextSet {C : Type 0} (m later : ℕ → Option (Node C)) (heads after : List ℕ) (c at v : ℕ) : Type 0 where
  pub here : next_at later after c at ≡ v
  pub others : (d j : ℕ) → (0 < j → In m d j) → (d ≡ c → j ≢ at) → next_at later after d j ≡ next_at m heads d j
  pub prev : (d k : ℕ) → prev_in d (later k) ≡ prev_in d (m k)
  pub requests : (k : ℕ) → request_in (later k) ≡ request_in (m k)

-- one link to what comes before was set, and nothing else that counts
pub record PrevSet {C : Type 0} (m later : ℕ → Option (Node C)) (tails after : List ℕ) (c at v : ℕ) : Type 0 where
  pub here : prev_at later after c at ≡ v
  pub others : (d j : ℕ) → (0 < j → In m d j) → (d ≡ c → j ≢ at) → prev_at later after d j ≡ prev_at m tails d j
  pub next : (d k : ℕ) → next_in d (later k) ≡ next_in d (m k)
  pub requests : (k : ℕ) → request_in (later k) ≡ request_in (m k)

-- the row of a pending request
abbrev pub row_of : {C R : Type 0} → ℕ → Request C → RequestRow C R
row_of running request = if request.id == running then InWork request else Waiting request

-- the rows with that of a node before them, where there is one
abbrev pub row_before : {C R : Type 0} → ℕ → Option (Node C) → List (RequestRow C R) → List (RequestRow C R)
row_before running None rows = rows
row_before running (Some n) rows = row_of running n.request ∷ rows

-- the rows of these places
abbrev pub rows_of : {C R : Type 0} → ℕ → Slab (Node C) → List (Place R) → List (RequestRow C R)
rows_of running nodes [] = []
rows_of running nodes (Ended id session reply ∷ places) = Gone id session reply ∷ rows_of running nodes places
rows_of running nodes (Linked key ∷ places) = row_before running (get nodes key) (rows_of running nodes places)

-- one chain was linked anew: after one request comes this one, and before another comes that one
pub record OneLinked {C : Type 0} (m later : ℕ → Option (Node C)) (heads heads_later tails tails_later : List ℕ) (c : ℕ) (r : Relink) : Type 0 where
  pub next_here : next_at later heads_later c r.before ≡ r.next
  pub next_others : (j : ℕ) → (0 < j → In m c j) → j ≢ r.before → next_at later heads_later c j ≡ next_at m heads c j
  pub prev_here : prev_at later tails_later c r.behind ≡ r.prev
  pub prev_others : (j : ℕ) → (0 < j → In m c j) → j ≢ r.behind → prev_at later tails_later c j ≡ prev_at m tails c j

-- one chain has its links
pub record SameLinks {C : Type 0} (m later : ℕ → Option (Node C)) (heads heads_later tails tails_later : List ℕ) (c : ℕ) : Type 0 where
  pub next : (j : ℕ) → (0 < j → In m c j) → next_at later heads_later c j ≡ next_at m heads c j
  pub prev : (j : ℕ) → (0 < j → In m c j) → prev_at later tails_later c j ≡ prev_at m tails c j

-- one chain was linked anew, and the others have their links
pub record Relinked {C : Type 0} (m later : ℕ → Option (Node C)) (heads heads_later tails tails_later : List ℕ) (c : ℕ) (r : Relink) : Type 0 where
  pub one : OneLinked m later heads heads_later tails tails_later c r
  pub rest : (d : ℕ) → d ≢ c → SameLinks m later heads heads_later tails tails_later d
  pub requests : (k : ℕ) → request_in (later k) ≡ request_in (m k)

-- the whole chain and one session's were linked anew, and the others have their links
pub record BothLinked {C : Type 0} (m later : ℕ → Option (Node C)) (heads heads_later tails tails_later : List ℕ) (c : ℕ) (all own : Relink) : Type 0 where
  pub whole : OneLinked m later heads heads_later tails tails_later 0 all
  pub session : OneLinked m later heads heads_later tails tails_later c own
  pub rest : (d : ℕ) → d ≢ 0 → d ≢ c → SameLinks m later heads heads_later tails tails_later d
  pub requests : (k : ℕ) → request_in (later k) ≡ request_in (m k)

-- the links of each chain
abbrev pub Chains : {C : Type 0} → (ℕ → Option (Node C)) → List ℕ → List ℕ → Type 0
Chains m heads tails = (c : ℕ) → c < 17 → Chain (In m c) (next_at m heads c) (prev_at m tails c)

-- what the queue keeps
pub record Sound {C R : Type 0} (running gone : ℕ) (nodes : Slab (Node C)) (places : List (Place R)) (heads tails counts : List ℕ) : Type 0 where
  pub fits : length places < 4294967295
  pub tied : Tied nodes places
  pub named : (i id : ℕ) (session : Session) (reply : R) → slice_get places i ≡ Some (Ended id session reply) → id ≡ suc i
  pub chains : Chains (node_at nodes places) heads tails
  pub work : 0 < running → (n : Node C) × (node_at nodes places running ≡ Some n)
  pub counted : (session : Session) → slice_index counts session.number ≡ pending_count session (rows_of {C = C} {R = R} running nodes places)
  pub few : (session : Session) → pending_count session (rows_of {C = C} {R = R} running nodes places) ≤ 16
  pub ended : gone ≡ gone_count (rows_of {C = C} {R = R} running nodes places)

-- an id, or none at 0
abbrev pub id_option : ℕ → Option ℕ
id_option id = if id == 0 then None else Some id

-- the chain of all requests, or of a session's
abbrev pub chain_for : Option Session → ℕ
chain_for None = 0
chain_for (Some session) = session.number

-- a chain's first request that is not in work
abbrev pub waiting_in : {C : Type 0} → (ℕ → Option (Node C)) → ℕ → ℕ → ℕ → ℕ
waiting_in m c head running = if head == running then next_in c (m head) else head

-- the request with this id, if it is one, is due, and none is before it
pub record IsFirstDue {C : Type 0} (m : ℕ → Option (Node C)) (now id : ℕ) : Type 0 where
  pub inside : 0 < id → In m 0 id
  pub hit : (n : Node C) → m id ≡ Some n → is_due now n.request ≡ true
  pub miss : (k : ℕ) (n : Node C) → m k ≡ Some n → (0 < id → k < id) → is_due now n.request ≡ false

-- a request behind the last ones of the whole queue and of its session
abbrev pub last_node : {C : Type 0} → Request C → ℕ → ℕ → Node C
last_node request all_last own_last = record { request = request; all = record { prev = all_last; next = 0 }; own = record { prev = own_last; next = 0 } }

-- the links of a chain where a request comes behind its last one, and where the request with these links leaves it
abbrev pub behind_last : ℕ → ℕ → Relink
behind_last last id = record { before = last; behind = 0; next = id; prev = id }

abbrev pub around : Link → Relink
around link = record { before = link.prev; behind = link.next; next = link.next; prev = link.prev }

-- how many more values a slab takes without memory
abbrev pub slab_room : {T : Type 0} → Slab T → ℕ
slab_room slab = slab.capacity - slab_len slab

-- what a session finds of a pending request, and at a place
abbrev pub found_pending : {C : Type 0} (R : Type 0) → Session → Option (Request C) → Found R
found_pending R session None = Nowhere
found_pending R session (Some request) = if same_session request.session session then StillPending else Nowhere

abbrev pub found_at : {C R : Type 0} → Slab (Node C) → Session → Place R → Found R
found_at {C} {R} nodes session (Linked key) = found_pending R session (request_in (get nodes key))
found_at nodes session (Ended id owner reply) = if same_session owner session then Replied reply else Nowhere
