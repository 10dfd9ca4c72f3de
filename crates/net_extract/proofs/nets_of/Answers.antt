use Rattle.std.proofs.Common.{◌≡◌, length, map, arith}
use Rattle.net_extract.specs.inside.Numbering.{AreContactLists, AreNetNumbers, piece_of}
use Rattle.net_extract.proofs.ExtractLaws.{nets_are}
use Rattle.net_extract.proofs.WalkLaws.{links_small}
use Rattle.net_extract.proofs.MadeLaws.{labels_small, are_nets}
use Rattle.net_extract.proofs.nets_of.Goals as goal

pub contact_lists-requires : goal.contact_lists-requires
contact_lists-requires c =
    let one_each = c.requires.islands.one_each in
    record {
      one_each = rw (c.as_slice-cuts.ensures, c.as_slice-islands.ensures) (omega (arith, c.requires.one_each));
      cuts_join = rw (c.as_slice-cuts.ensures, c.as_slice-islands.ensures, one_each) c.args.map.now.cuts_join;
    }

pub net_numbers-requires : goal.net_numbers-requires
net_numbers-requires c =
    let lists = c.args.lists.now in
    let given = c.args.map.now in
    let islands = c.args.metals.now.islands in
    let contacts = c.in_ok-contacts.contacts in
    let lists_are : AreContactLists lists islands given.cuts contacts = rw (c.as_slice-islands.ensures, c.as_slice-cuts.ensures) at c.in_ok-contacts.ensures in
    rw c.as_slice.ensures (links_small lists (length given.metals) c.args.metals.now.count islands c.requires.islands given.cuts given.cuts_join contacts lists_are)

pub piece_lists-requires : goal.piece_lists-requires
piece_lists-requires c =
    rw (c.as_slice-islands.ensures, c.deref.ensures.value)
    (labels_small c.args.lists.now (length c.args.map.now.metals) c.args.metals.now.count c.args.metals.now.islands c.requires.islands (length c.in_ok-nets.nets.items) c.in_ok-nets.ensures.one_each)

pub new-requires : goal.new-requires
new-requires c =
    let lists = c.args.lists.now in
    let given = c.args.map.now in
    let islands = c.args.metals.now.islands in
    let contacts = c.in_ok-contacts.contacts in
    let nets = c.in_ok-nets.nets.items in
    let lists_are : AreContactLists lists islands given.cuts contacts = rw (c.as_slice-islands.ensures, c.as_slice-cuts.ensures) at c.in_ok-contacts.ensures in
    let pieces_are : c.in_ok-pieces.pieces ≡ map (map (piece_of nets)) islands = rw (c.as_slice-islands.ensures, c.deref.ensures.value) at c.in_ok-pieces.ensures in
    let ends_are = rw c.as_slice-cuts.ensures at c.in_ok-ends.ensures in
    rw pieces_are (record {
      nets_are = are_nets islands nets contacts c.in_ok-ends.ends c.args.anchors given.contacts lists (length given.metals) c.args.metals.now.count c.requires.islands given.cuts given.cuts_join
          lists_are given.terminals ends_are c.requires.anchors given.terminals_differ;
      grouped = rw c.as_slice-2.ensures at c.in_ok-groups.ensures;
    })

pub returns : goal.returns
returns c =
    let lists = c.args.lists.now in
    let given = c.args.map.now in
    let count = c.args.metals.now.count in
    let islands = c.args.metals.now.islands in
    let contacts = c.in_ok-contacts.contacts in
    let nets = c.in_ok-nets.nets.items in
    let lists_are : AreContactLists lists islands given.cuts contacts = rw (c.as_slice-islands.ensures, c.as_slice-cuts.ensures) at c.in_ok-contacts.ensures in
    let numbers : AreNetNumbers count contacts nets = rw c.as_slice.ensures at c.in_ok-nets.ensures in
    let pieces_are : c.in_ok-pieces.pieces ≡ map (map (piece_of nets)) islands = rw (c.as_slice-islands.ensures, c.deref.ensures.value) at c.in_ok-pieces.ensures in
    let ends_are = rw c.as_slice-cuts.ensures at c.in_ok-ends.ensures in
    rw (c.new.ensures, pieces_are) (nets_are given lists islands nets contacts c.in_ok-ends.ends c.args.anchors count c.requires.islands lists_are numbers ends_are c.requires.anchors)
