use Rattle.std.proofs.Common.{subst, ◌≤◌, ◌+◌, ◌*◌, ◌-◌, length}
use Rattle.cfb_alloc.proofs.alloc.are_listed.Goals as goal

pub returns-clause-listed : goal.returns-clause-listed
returns-clause-listed c is_so = record {
  sizes = record {
    short = c.requires;
    places = subst (λ w. length c.args.fat_sectors.now ≤ 109 + length c.args.difat_sectors.now * (w - 1)) c.words_per_sector-entries.ensures c.if-fat_sectors-difat_sectors.false;
    difats = c.if-difat_sectors-count.false;
  };
  fats = c.are_below.ensures.below c.if-not-are_below.false;
  difats = c.are_below-2.ensures.below is_so;
}
