mod ArgumentLists
